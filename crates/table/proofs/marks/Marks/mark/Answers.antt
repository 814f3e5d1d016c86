-- `table::marks::Marks::mark` meets its contract.
use Rattle.std.proofs.Common.{sym, ◌∙◌}
use Rattle.table.specs.inside.Sets.{bump}
use Rattle.table.proofs.marks.Marks.mark.Goals as goal

pub returns-then-holds : goal.returns-then-holds
unfolding bump
returns-then-holds c = rw (← c.self.view_is, sym c.holds.ensures ∙ c.if-holds.true, c.put.ensures)

pub returns-else-holds : goal.returns-else-holds
unfolding bump
returns-else-holds c = rw (← c.self.view_is, sym c.holds.ensures ∙ c.if-holds.false, c.put-else-holds.ensures)
