-- `table::node::Node::word_fault` meets its contract.
use Rattle.std.proofs.Common.{sym, ◌∙◌}
use borrow.Author.Tests.{ne_eqb}
use Rattle.rules.specs.Table.{word_fault}
use Rattle.table.proofs.RowLaws.{zero_fine, rest_fine}
use Rattle.table.proofs.WordLaws.{number_some, variable_told}
use Rattle.table.proofs.node.Node.word_fault.Goals as goal

pub returns-then-w-eq0 : goal.returns-then-w-eq0
returns-then-w-eq0 c = rw c.if-w-eq0.true (zero_fine _ _ c.args.slot (sym c.is_child.ensures ∙ c.if-is_child.false))

pub returns-in-Unused : goal.returns-in-Unused
unfolding word_fault
returns-in-Unused c = rw (c.in-Unused.is, ne_eqb c.args.w 0 c.if-w-eq0.false)

pub returns-in-Variable : goal.returns-in-Variable
returns-in-Variable c = number_some _ _ _ c.then_some.ensures ∙ rw c.in-Variable.is (variable_told _ _ _)

pub returns-in_default : goal.returns-in_default
returns-in_default c =
    rest_fine _ _ _ c.args.slot (sym c.is_child.ensures ∙ c.if-is_child.false) c.in_default.not-Unused c.in_default.not-Variable
