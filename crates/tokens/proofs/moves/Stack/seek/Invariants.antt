-- `tokens::moves::Stack::seek` meets its contract. The loop's invariant: what is found among all frames is found among the first `i`.
use mathlib.Core.Path.{◌≡◌}
use Prim.Native.Nat.{◌≤◌}
use Rattle.tokens.specs.Shape.{seek}
use Rattle.tokens.specs.Arrays.{stack}
use Rattle.tokens.proofs.moves.Stack.seek.Given as goal

abbrev pub invariant-loop-i : goal.invariant-loop-i
invariant-loop-i l = (seek l.kind (stack l.self.tags l.top) ≡ seek l.kind (stack l.self.tags l.i)) × (l.i ≤ l.top)
