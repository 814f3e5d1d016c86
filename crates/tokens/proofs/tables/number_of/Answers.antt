-- `tokens::tables::number_of` meets its contract.
use mathlib.Core.Path.{refl}
use borrow.Author.Rules.{rules}
use Rattle.tokens.proofs.TakenLaws.{number_fixed, number_carried}
use Rattle.tokens.specs.Tables.{numbers}
use Rattle.tokens.proofs.tables.number_of.Goals as goal

pub returns-then-kind-lt27 : goal.returns-then-kind-lt27
unfolding numbers
returns-then-kind-lt27 c =
    let if1 = c.if-kind-lt27 in
    number_fixed (record { is = refl }) if1.true (search rules) c.from.ensures

pub returns-else-kind-lt27 : goal.returns-else-kind-lt27
returns-else-kind-lt27 c = number_carried c.if-kind-lt27.false (search rules)
