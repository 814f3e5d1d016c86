-- `read_full` meets its contract. The loop's invariant: no more was read than there is room.
use Rattle.std.proofs.Common.{◌-◌, ◌≤◌, length}
use Rattle.filling.proofs.read_full.Given as goal

abbrev pub invariant-loop-done : goal.invariant-loop-done
invariant-loop-done g l = l.done ≤ length l.room

abbrev pub decreases-loop-done : goal.decreases-loop-done
decreases-loop-done g l = length l.room - l.done
