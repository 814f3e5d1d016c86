-- `tokens::scan::look` meets its contract. The loop's invariant: of the tokens below `k`, `f` has the best.
use Prim.Native.Nat.{◌<◌, ◌≤◌}
use lib.ListN.{drop}
use Rattle.std.specs.Prelude.{unwrap_or, IfSome}
use Rattle.tokens.specs.Arrays.{standing}
use Rattle.tokens.specs.Scan.{Best}
use Rattle.tokens.proofs.scan.look.Given as goal

abbrev pub invariant-loop-k : goal.invariant-loop-k
invariant-loop-k l = Best (standing l.stack.tags l.s) (drop l.at l.text) l.k l.f.best (unwrap_or l.f.found 27) × IfSome l.f.found (λ i. i < 27) × (l.k ≤ 27)
