-- `table::sets::Set::put` meets its contract.
use Rattle.table.specs.inside.Sets.{put}
use Rattle.table.proofs.sets.Set.put.Goals as goal

pub returns : goal.returns
unfolding put
returns c = rw (← c.self.view_is, c.with.ensures)
