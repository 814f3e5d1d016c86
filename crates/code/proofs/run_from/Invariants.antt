-- `run_from` meets its contract. The loop's invariant is `Along`: the run that is left ends as the whole run does, and `at` has the label and where
-- it stands. The measure is the fuel that is left.
use Prim.Native.Nat.{◌-◌}
use Rattle.code.proofs.Along.{Along}
use Rattle.code.proofs.run_from.Given as goal

abbrev pub invariant-loop-at : goal.invariant-loop-at
invariant-loop-at l = Along l.t.now l.c l.start l.initial.store l.fuel l.at.label l.at.place l.steps l.store

abbrev pub decreases-loop-at : goal.decreases-loop-at
decreases-loop-at l = l.fuel - l.steps
