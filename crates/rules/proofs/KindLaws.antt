-- The kinds of 01's table by their numbers: which numbers are kinds, and the class of each ("Kinds 1 to 8 are arithmetic, 16 to 22
-- boolean, 32 to 36 statements").
use mathlib.Core.Path.{◌≡◌, refl, ap, sym, ◌∙◌}
use mathlib.Core.Bool.{Bool, true, false, cond, ◌&&◌}
use mathlib.Core.List.{List, [], ◌∷◌}
use mathlib.Core.Option.{none}
use Prim.Native.Nat.{ℕ, zero, suc, ◌<◌, ◌≤◌}
use native.Mathlib.Omega.{arith}
use borrow.Author.Rules.{rules}
use lib.Dec.{eqb, ltb, leb}
use borrow.Author.Tests.{eqb-true, ne_eqb, ltb-true, ltb-false, leb-true, leb-false, le-leb, lt-leb}
use Rattle.rules.specs.Lists.{fetch, every}
use Rattle.rules.specs.Table.{kinds, kind_of, unknown, row_of, rank, Class, arithmetic, boolean, statement, no_class}
use Rattle.rules.proofs.ListLaws.{every_true, Below}

-- ---- classes

unranked : ℕ → Class
unranked zero = arithmetic
unranked (suc zero) = boolean
unranked (suc (suc zero)) = statement
unranked (suc (suc (suc n))) = no_class

rank_back : (c : Class) → unranked (rank c) ≡ c
unfolding unranked
rank_back arithmetic = refl
rank_back boolean = refl
rank_back statement = refl
rank_back no_class = refl

pub rank_is : (c d : Class) → rank c ≡ rank d → c ≡ d
rank_is c d e = sym (rank_back c) ∙ ap unranked e ∙ rank_back d

-- ---- numbers

keys : {A : Type 0} → List (ℕ × A) → List ℕ
keys [] = []
keys (e ∷ es) = e.0 ∷ keys es

fetch_past : {A : Type 0} (es : List (ℕ × A)) (b k : ℕ) → Below b (keys es) → b ≤ k → fetch es k ≡ none
unfolding fetch keys
fetch_past [] b k l h = refl
fetch_past (e ∷ es) b k l h = rw (ne_eqb e.0 k (λ q. omega arith), fetch) (fetch_past es b k l.1 h)

pub kind_past : (k : ℕ) → 36 < k → kind_of k ≡ unknown
unfolding kind_of keys
kind_past k h = rw (fetch_past kinds 37 k (search rules) h, kind_of)

-- "Kinds 1 to 8 are arithmetic, 16 to 22 boolean, 32 to 36 statements", as tests of the number
abbrev within : ℕ → ℕ → ℕ → Bool
within a b k = leb a k && leb k b

unfoldable pub class_of : ℕ → Class
class_of k = cond (within 1 8 k) arithmetic (cond (within 16 22 k) boolean (cond (within 32 36 k) statement no_class))

class_small : (k : ℕ) → k < 37 → (row_of (kind_of k)).class ≡ class_of k
unfolding every kind_of fetch row_of class_of
class_small k h = rank_is _ _ (eqb-true _ _ (every_true (λ k. eqb (rank (row_of (kind_of k)).class) (rank (class_of k))) 37 refl k h))

class_large : (k : ℕ) → 37 ≤ k → (row_of (kind_of k)).class ≡ class_of k
unfolding row_of class_of
class_large k h =
    rw (kind_past k h, lt-leb k 8 (omega arith), lt-leb k 22 (omega arith), lt-leb k 36 (omega arith))
    (rw (le-leb 1 k (omega arith), le-leb 16 k (omega arith), le-leb 32 k (omega arith)))

pub class_of_lem : (k : ℕ) → (row_of (kind_of k)).class ≡ class_of k
class_of_lem k = go (ltb k 37) refl
  where
    go : (b : Bool) → ltb k 37 ≡ b → (row_of (kind_of k)).class ≡ class_of k
    go true e = class_small k (ltb-true k 37 e)
    go false e = class_large k (ltb-false k 37 e)

-- the numbers of each class
pub data Ranges (k : ℕ) : Class → Type 0 where
  is_arithmetic : 1 ≤ k → k ≤ 8 → Ranges k arithmetic
  is_boolean : 16 ≤ k → k ≤ 22 → Ranges k boolean
  is_statement : 32 ≤ k → k ≤ 36 → Ranges k statement
  is_none : (1 ≤ k → 8 < k) → (16 ≤ k → 22 < k) → (32 ≤ k → 36 < k) → Ranges k no_class

pub ranges : (k : ℕ) → Ranges k (row_of (kind_of k)).class
unfolding class_of
ranges k = rw (class_of_lem k) (go (within 1 8 k) (within 16 22 k) (within 32 36 k) (in_range 1 8) (in_range 16 22) (in_range 32 36))
  where
    Between : ℕ → ℕ → Bool → Type 0
    Between a b true = (a ≤ k) × (k ≤ b)
    Between a b false = a ≤ k → b < k

    in_range : (a b : ℕ) → Between a b (within a b k)
    in_range a b = test (leb a k) (leb k b) (leb-true a k) (leb-true k b) (leb-false a k) (leb-false k b)
      where
        test : (x y : Bool) → (x ≡ true → a ≤ k) → (y ≡ true → k ≤ b) → (x ≡ false → k < a) → (y ≡ false → b < k) → Between a b (x && y)
        test true true f g f' g' = (f refl, g refl)
        test true false f g f' g' = λ h. g' refl
        test false y f g f' g' = λ h. let l = f' refl in absurd (omega arith)

    go : (x y z : Bool) → Between 1 8 x → Between 16 22 y → Between 32 36 z → Ranges k (cond x arithmetic (cond y boolean (cond z statement no_class)))
    go true y z f g h = is_arithmetic f.0 f.1
    go false true z f g h = is_boolean g.0 g.1
    go false false true f g h = is_statement h.0 h.1
    go false false false f g h = is_none f g h

module _ (k : ℕ) where
  pub arithmetic_range : (row_of (kind_of k)).class ≡ arithmetic → (1 ≤ k) × (k ≤ 8)
  arithmetic_range e = go (rw e at (ranges k))
    where
      go : Ranges k arithmetic → (1 ≤ k) × (k ≤ 8)
      go (is_arithmetic a b) = (a, b)

  pub boolean_range : (row_of (kind_of k)).class ≡ boolean → (16 ≤ k) × (k ≤ 22)
  boolean_range e = go (rw e at (ranges k))
    where
      go : Ranges k boolean → (16 ≤ k) × (k ≤ 22)
      go (is_boolean a b) = (a, b)

  pub statement_range : (row_of (kind_of k)).class ≡ statement → (32 ≤ k) × (k ≤ 36)
  statement_range e = go (rw e at (ranges k))
    where
      go : Ranges k statement → (32 ≤ k) × (k ≤ 36)
      go (is_statement a b) = (a, b)
