-- The best of the fixed tokens, one token more at a time.
use mathlib.Core.Path.{◌≡◌, refl, sym, ◌∙◌}
use mathlib.Core.Bool.{Bool, true, false}
use mathlib.Core.List.{List}
use Prim.Native.Nat.{ℕ, ◌+◌, ◌<◌, ◌≤◌}
use native.Mathlib.Omega.{arith}
use lib.ListN.{length}
use lib.Dec.{ltb}
use borrow.Author.Tests.{ltb-true, ltb-false}
use Rattle.tokens.specs.Shape.{Shape, may}
use Rattle.tokens.specs.Scan.{spelled_at, common, Best}

-- what holds below k and at k holds below k + 1
below : {P : ℕ → Type 0} (k : ℕ) → ((i : ℕ) → i < k → P i) → P k → (i : ℕ) → i < k + 1 → P i
below {P} k h p i l = by (ltb i k) refl
  where
    by : (b : Bool) → ltb i k ≡ b → P i
    by true e = h i (ltb-true i k e)
    by false e = let m = ltb-false i k e in let q : k ≡ i = omega arith in rw q at p

pub best_none : (sh : Shape) (bs : List ℕ) → Best sh bs 0 0 27
best_none sh bs =
    record {
      upper = λ k l. absurd (omega arith);
      reached = λ l. absurd (omega arith);
      whole = λ l. absurd (omega arith);
      broken = λ l k h. absurd (omega arith);
    }

module _ (sh : Shape) (bs : List ℕ) (k best found : ℕ) (b : Best sh bs k best found) where
  -- it is there less far, or may not follow
  pub best_shorter : {l : ℕ} → l ≡ common (spelled_at k) bs → l < best → Best sh bs (k + 1) best found
  best_shorter {l} e h =
      record {
        upper = below k b.upper (λ m. omega arith);
        reached = b.reached;
        whole = b.whole;
        broken = λ n. below k (b.broken n) (λ m c p q. omega arith);
      }

  pub best_nothing : {l : ℕ} → l ≡ common (spelled_at k) bs → l ≡ 0 → Best sh bs (k + 1) best found
  best_nothing {l} e h =
      record {
        upper = below k b.upper (λ m. omega arith);
        reached = b.reached;
        whole = b.whole;
        broken = λ n. below k (b.broken n) (λ m c p q. omega arith);
      }

  pub best_refused : may sh k ≡ false → Best sh bs (k + 1) best found
  best_refused h =
      record {
        upper = below k b.upper (λ m. absurd (clash m h));
        reached = b.reached;
        whole = b.whole;
        broken = λ n. below k (b.broken n) (λ m. absurd (clash m h));
      }
    where
      clash : may sh k ≡ true → may sh k ≡ false → ⊥
      clash e f = let z : ◌≡◌ {A = ℕ} 0 1 = cc in omega arith

  -- it is there whole
  pub best_whole : k < 27 → {l n : ℕ} → l ≡ common (spelled_at k) bs → length (spelled_at k) ≡ n → 0 < l → best ≤ l
      → may sh k ≡ true → l ≡ n
      → Best sh bs (k + 1) l k
  best_whole t {l} {n} e d z h m q =
      record {
        upper = below k (λ i j a. let u = b.upper i j a in omega arith) (λ a. omega arith);
        reached = λ p. (k, t, m, sym e);
        whole = λ p. (m, sym e, d ∙ sym q, z);
        broken = λ a. absurd (omega arith);
      }

  -- it is there further than all before, and not whole
  pub best_further : k < 27 → {l n : ℕ} → l ≡ common (spelled_at k) bs → length (spelled_at k) ≡ n → best < l → may sh k ≡ true
      → (l ≡ n → ⊥)
      → Best sh bs (k + 1) l 27
  best_further t {l} {n} e d h m q =
      record {
        upper = below k (λ i j a. let u = b.upper i j a in omega arith) (λ a. omega arith);
        reached = λ p. (k, t, m, sym e);
        whole = λ p. absurd (omega arith);
        broken = λ a. below k (λ i j c f. let u = b.upper i j c in λ y z. omega arith) (λ c f y z. q (sym z ∙ d));
      }

  -- as far as some before, and not whole
  pub best_level : {l n : ℕ} → l ≡ common (spelled_at k) bs → length (spelled_at k) ≡ n → l ≡ best → (l ≡ n → ⊥)
      → Best sh bs (k + 1) best found
  best_level {l} {n} e d h q =
      record {
        upper = below k b.upper (λ m. omega arith);
        reached = b.reached;
        whole = b.whole;
        broken = λ a. below k (b.broken a) (λ c f y z. q (h ∙ sym z ∙ d));
      }
