-- `check_code` meets its contract. The loop's invariant: no instruction passed is against the rules.
use mathlib.Core.Path.{◌≡◌}
use Prim.Native.Nat.{ℕ, ◌<◌}
use Rattle.rules.specs.Refusal.{fine}
use Rattle.rules.specs.CodeWords.{code_fault}
use Rattle.instructions.proofs.check_code.Given as goal

abbrev pub invariant-loop-k : goal.invariant-loop-k
invariant-loop-k l = (j : ℕ) → j < l.k → code_fault l.t l.c j ≡ fine
