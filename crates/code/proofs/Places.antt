-- Where a label stands in code whose labels rise: at an instruction that bears it, or nowhere; and how halving closes in on it.
use mathlib.Core.Path.{◌≡◌}
use mathlib.Core.Logic.{⊎_elim}
use mathlib.Core.List.{List}
use Prim.Native.Nat.{ℕ, ◌+◌, ◌<◌, ◌≤◌}
use native.Mathlib.Nat.{eq-or-lt_of_le}
use native.Mathlib.Omega.{arith}
use Rattle.rules.specs.CodeWords.{part, instructions, Rising}
use Rattle.code.specs.inside.Running.{Bears}

module _ (c : List ℕ) (rising : Rising c) where
  -- labels do not fall
  apart : (j k : ℕ) → j ≤ k → k < instructions c → part c j 0 ≤ part c k 0
  apart j k h l = ⊎_elim (λ (e : j ≡ k). rw e (omega arith)) (λ (m : j < k). omega (arith, rising j k m l)) (eq-or-lt_of_le h)

  pub below_first : {ℓ : ℕ} → ℓ < part c 0 0 → (j : ℕ) → Bears c ℓ j → ⊥
  below_first h j b = omega (arith, b.label, apart 0 j (omega arith) b.inside)

-- ---- halving: ℓ stands from low up to high, or nowhere

pub record Between (c : List ℕ) (ℓ low high : ℕ) : Type 0 where
  pub ordered : low ≤ high
  pub within : high ≤ instructions c
  pub below : (j : ℕ) → j < low → part c j 0 < ℓ
  pub above : (j : ℕ) → high ≤ j → j < instructions c → ℓ < part c j 0

module _ (c : List ℕ) {ℓ : ℕ} where
  pub anywhere : Between c ℓ 0 (instructions c)
  anywhere = record { ordered = omega arith; within = omega arith; below = λ j h. absurd (omega arith); above = λ j h l. absurd (omega arith) }

  module _ {low high : ℕ} (between : Between c ℓ low high) where
    pub closed : high ≤ low → (j : ℕ) → Bears c ℓ j → ⊥
    closed h j b =
        let not-below : j < low → ⊥ = λ m. omega (arith, b.label, between.below j m) in
        omega (arith, b.label, between.above j (omega arith) b.inside)

    module _ (rising : Rising c) (middle : ℕ) (from : low ≤ middle) (to : middle < high) where
      pub raised : part c middle 0 < ℓ → Between c ℓ (middle + 1) high
      raised h = record {
        ordered = omega arith;
        within = between.within;
        below = λ j l. omega (arith, apart c rising j middle (omega arith) (omega (arith, between.within)));
        above = between.above;
      }

      pub lowered : ℓ < part c middle 0 → Between c ℓ low middle
      lowered h = record {
        ordered = omega arith;
        within = omega (arith, between.within);
        below = between.below;
        above = λ j a l. omega (arith, apart c rising middle j a l);
      }
