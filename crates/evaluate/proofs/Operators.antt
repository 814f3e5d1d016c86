-- The operation of a kind, read off its number.
use mathlib.Core.Path.{◌≡◌, refl}
use mathlib.Core.Logic.{⊎_elim}
use Prim.Native.Nat.{ℕ, zero, suc, ◌+◌, ◌<◌, ◌≤◌}
use native.Mathlib.Nat.{eq-or-lt_of_le}
use native.Mathlib.Omega.{arith}
use Rattle.rules.specs.Lists.{fetch}
use Rattle.rules.specs.Table.{kind_of, binary, compare}
use Rattle.evaluate.specs.inside.Operands.{operator_of, relation_of}

-- what holds of a, of a + 1 and so on, n numbers, holds of every number among them
abbrev Run : (ℕ → Type 0) → ℕ → ℕ → Type 0
Run P a zero = Unit {0}
Run P a (suc n) = P a × Run P (suc a) n

in_run : (P : ℕ → Type 0) (a n : ℕ) → Run P a n → (k : ℕ) → a ≤ k → k < a + n → P k
in_run P a zero h k l m = absurd (omega arith)
in_run P a (suc n) h k l m = ⊎_elim (λ (e : a ≡ k). rw (← e) h.0) (λ (g : a < k). in_run P (suc a) n h.1 k g (omega arith)) (eq-or-lt_of_le l)

pub binary_kind : (k : ℕ) → 3 ≤ k → k ≤ 7 → kind_of k ≡ binary (operator_of k)
unfolding kind_of operator_of fetch
binary_kind k a b = in_run (λ k. kind_of k ≡ binary (operator_of k)) 3 5 (refl, (refl, (refl, (refl, (refl, tt))))) k a (omega arith)

pub compare_kind : (k : ℕ) → 18 ≤ k → k ≤ 20 → kind_of k ≡ compare (relation_of k)
unfolding kind_of relation_of fetch
compare_kind k a b = in_run (λ k. kind_of k ≡ compare (relation_of k)) 18 3 (refl, (refl, (refl, tt))) k a (omega arith)
