-- `run_crews` meets its contract. The loop's invariant is `Gone`: of the first i crews, stores and room hold what they left, and all else is as it
-- was.
use Rattle.depot.proofs.Crews.{Gone}
use Rattle.depot.proofs.run_crews.Given as goal

abbrev pub invariant-loop-i : goal.invariant-loop-i
invariant-loop-i l = Gone l.table l.code l.start l.initial.stores l.fuel l.initial.room l.i l.stores l.room
