-- `table::sets::Set::holds` meets its contract.
use Rattle.table.specs.inside.Sets.{held}
use Rattle.table.proofs.sets.Set.holds.Goals as goal

pub returns : goal.returns
unfolding held
returns c = rw (← c.self.view_is) c.has.ensures
