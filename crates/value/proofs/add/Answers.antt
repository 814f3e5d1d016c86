-- `value::add` meets its contract: what the library's `wrapping_add` leaves is wrapped.
use Rattle.std.proofs.Common.{◌∙◌, w32}
use Rattle.std.proofs.lemmas.Int.{wrapping_add_is}
use Rattle.rules.specs.Value.{sum}
use Rattle.value.proofs.Machine.{wraps}
use Rattle.value.proofs.add.Goals as goal

pub returns : goal.returns
unfolding sum
returns c = wrapping_add_is w32 c.args.a c.args.b c.ranges.a c.ranges.b ∙ wraps _
