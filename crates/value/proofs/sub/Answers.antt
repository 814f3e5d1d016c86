-- `value::sub` meets its contract: what the library's `wrapping_sub` leaves is wrapped.
use Rattle.std.proofs.Common.{◌∙◌, w32}
use Rattle.std.proofs.lemmas.Int.{wrapping_sub_is}
use Rattle.rules.specs.Value.{difference}
use Rattle.value.proofs.Machine.{wraps}
use Rattle.value.proofs.sub.Goals as goal

pub returns : goal.returns
unfolding difference
returns c = wrapping_sub_is w32 c.args.a c.args.b c.ranges.a c.ranges.b ∙ wraps _
