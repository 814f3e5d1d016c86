-- `fields_fit` meets its contract: each operation asks what `fields_fit` asks of it.
use native.Mathlib.Omega.{arith}
use borrow.Author.Tests.{ne_eqb}
use Rattle.rules.specs.CodeWords.{fields_fit}
use Rattle.rules.proofs.FetchLaws.{arithmetic_node, boolean_node}
use Rattle.instructions.proofs.fields_fit.Goals as goal

pub returns-in-1 : goal.returns-in-1
unfolding fields_fit
returns-in-1 c = rw (c.in-1.is, arithmetic_node, c.is_node.ensures)

pub returns-in-2 : goal.returns-in-2
unfolding fields_fit
returns-in-2 c = rw c.in-2.is

pub returns-in-3 : goal.returns-in-3
unfolding fields_fit
returns-in-3 c = rw (c.in-3.is, boolean_node, c.is_node-in-3.ensures)

pub returns-in_default : goal.returns-in_default
unfolding fields_fit
returns-in_default c =
    rw (ne_eqb c.args.o 1 (λ e. omega arith), ne_eqb c.args.o 2 (λ e. omega arith), ne_eqb c.args.o 3 (λ e. omega arith))
