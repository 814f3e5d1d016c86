-- `run_crews` meets its contract. The loop's invariant is `Gone`: of the first i crews, stores and room hold what they left, and all else is as it
-- was.
use native.Mathlib.Omega.{arith}
use Rattle.depot.proofs.Crews.{none_gone, next_unrefused, one_more, all_gone}
use Rattle.depot.proofs.run_crews.Goals as goal

pub loop-i-init : goal.loop-i-init
loop-i-init c = none_gone _ _ _ _ _ _

pub run_admitted-run-requires : goal.run_admitted-run-requires
run_admitted-run-requires c = next_unrefused _ _ _ _ _ _ c.requires c.loop-i.invariant (omega arith) (omega arith) (omega arith)

pub loop-i-preserved : goal.loop-i-preserved
loop-i-preserved c =
    rw c.tell.ensures
    (one_more _ _ _ _ _ _ c.requires c.loop-i.invariant (omega arith) (omega arith) (omega arith) (omega arith) (omega arith) c.run_admitted-run.ensures)

pub returns : goal.returns
returns c = all_gone _ _ _ _ _ _ c.requires c.loop-i.invariant (omega arith)
