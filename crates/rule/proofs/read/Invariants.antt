-- `rule::read` meets its contract.
use Prim.Native.Nat.{◌+◌, ◌-◌}
use lib.ListN.{length}
use Rattle.rule.proofs.EndLaws.{Midway}
use Rattle.rule.proofs.read.Given as goal

abbrev pub invariant-loop-at : goal.invariant-loop-at
invariant-loop-at l =
    Midway l.text l.at l.stack l.nodes l.s

abbrev pub decreases-loop-at : goal.decreases-loop-at
decreases-loop-at l =
    length l.text + 1 - l.at
