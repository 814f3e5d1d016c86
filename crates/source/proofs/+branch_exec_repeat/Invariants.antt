-- The statements call each other on children, so the node's number falls; `exec` hands an if or a while on to its own function, so twice the number
-- counts, and one more in `exec`. The loop of a while: from the credit and the store that are left, the while's run goes on as it began.
use mathlib.Core.Path.{◌≡◌}
use Prim.Native.Nat.{◌+◌, ◌*◌, ◌<◌, ◌≤◌}
use Rattle.source.specs.inside.Ran.{runs}
use Rattle.source.proofs.+branch_exec_repeat.Given as goal

abbrev pub decreases-branch : goal.decreases-branch
decreases-branch l = 2 * l.n

abbrev pub decreases-exec : goal.decreases-exec
decreases-exec l = 2 * l.n + 1

abbrev pub decreases-repeat : goal.decreases-repeat
decreases-repeat l = 2 * l.n

abbrev pub invariant-repeat-loop-left : goal.invariant-repeat-loop-left
invariant-repeat-loop-left l =
    (0 < l.left) × (l.left ≤ l.credit) × (runs l.t.now l.n l.credit l.initial.s ≡ runs l.t.now l.n l.left l.s)

abbrev pub decreases-repeat-loop-left : goal.decreases-repeat-loop-left
decreases-repeat-loop-left l = l.left
