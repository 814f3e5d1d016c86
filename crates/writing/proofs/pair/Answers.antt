-- `pair` meets its contract: the table has the two digits of each byte.
use Rattle.std.proofs.Common.{refl, rules}
use Rattle.rules.specs.Lists.{joined}
use Rattle.rules.specs.Text.{digit}
use Rattle.writing.specs.inside.Parts.{pair_table}
use Rattle.writing.proofs.Tables.{pair_at}
use Rattle.writing.proofs.pair.Goals as goal

pub returns : goal.returns
unfolding pair_table joined digit
returns c = rw c.from-i.ensures (pair_at (record { is = refl }) c.args.b (search rules))
