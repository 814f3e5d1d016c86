-- How long a spelling and the text are the same.
use mathlib.Core.Path.{◌≡◌, refl, sym}
use mathlib.Core.Bool.{Bool, true, false}
use mathlib.Core.List.{List, [], ◌∷◌}
use Prim.Native.Nat.{ℕ, zero, suc, ◌+◌, ◌<◌, ◌≤◌}
use native.Mathlib.Omega.{arith}
use lib.Dec.{eqb, ltb}
use lib.ListN.{length, get_or, take, drop}
use lib.Seq.{drop-cons}
use native.Mathlib.Numerals.{add-one}
use borrow.Author.Tests.{eqb-true, eq-eqb, ne_eqb, ltb-true, ltb-false}
use Rattle.rules.proofs.ListLaws.{and_true}
use Rattle.grammar.specs.machine.Bytes.{begins}
use Rattle.tokens.specs.Scan.{common, common_by}
use Rattle.tokens.proofs.Halts.{past}

-- two bytes the same, or not
pub common_more : (p q : List ℕ) (a b : ℕ) → a ≡ b → common (a ∷ p) (b ∷ q) ≡ suc (common p q)
unfolding common common_by
common_more p q a b e = rw (eq-eqb a b e)

pub common_none : (p q : List ℕ) (a b : ℕ) → (a ≡ b → ⊥) → common (a ∷ p) (b ∷ q) ≡ 0
unfolding common common_by
common_none p q a b h = rw (ne_eqb a b h)

by_first : (t : Bool) (n m : ℕ) → n ≤ m → common_by t n ≤ suc m
unfolding common_by
by_first true n m h = omega arith
by_first false n m h = omega arith

pub common_first : (p q : List ℕ) → common p q ≤ length p
unfolding common
common_first [] q = omega arith
common_first (a ∷ p) [] = omega arith
common_first (a ∷ p) (b ∷ q) = by_first (eqb a b) (common p q) (length p) (common_first p q)

pub common_second : (p q : List ℕ) → common p q ≤ length q
unfolding common
common_second [] q = omega arith
common_second (a ∷ p) [] = omega arith
common_second (a ∷ p) (b ∷ q) = by_first (eqb a b) (common p q) (length q) (common_second p q)

-- the same first byte, where something is common
by_true : (a b : ℕ) (t : Bool) (n m : ℕ) → eqb a b ≡ t → suc n ≤ common_by t m → (a ≡ b) × (n ≤ m)
unfolding common_by
by_true a b true n m e h = (eqb-true a b e, omega arith)
by_true a b false n m e h = absurd (omega arith)

split_common : (a b n : ℕ) (p q : List ℕ) → suc n ≤ common (a ∷ p) (b ∷ q) → (a ≡ b) × (n ≤ common p q)
unfolding common
split_common a b n p q h = by_true a b (eqb a b) n (common p q) refl h

-- the first n bytes of q begin p exactly where n are common
pub common_begins : (p q : List ℕ) (n : ℕ) → n ≤ common p q → begins (take n q) p ≡ true
unfolding begins common
common_begins p q zero h = refl
common_begins [] q (suc n) h = absurd (omega arith)
common_begins (a ∷ p) [] (suc n) h = absurd (omega arith)
common_begins (a ∷ p) (b ∷ q) (suc n) h =
    let k = split_common a b n p q h in
    rw (eq-eqb b a (sym k.0)) (common_begins p q n k.1)

pub begins_common : (p q : List ℕ) (n : ℕ) → n ≤ length q → begins (take n q) p ≡ true → n ≤ common p q
unfolding begins
begins_common p q zero h e = omega arith
begins_common p [] (suc n) h e = absurd (omega arith)
begins_common [] (b ∷ q) (suc n) h e = let z : ◌≡◌ {A = ℕ} 0 1 = cc in absurd (omega arith)
begins_common (a ∷ p) (b ∷ q) (suc n) h e =
    let k = and_true (eqb b a) (begins (take n q) p) e in
    let m = begins_common p q n (omega arith) k.1 in
    let c = common_more p q a b (sym (eqb-true b a k.0)) in
    omega arith

-- a spelling that is there whole
pub whole_there : (p q : List ℕ) → length p ≤ common p q → take (length p) q ≡ p
unfolding common
whole_there [] q h = refl
whole_there (a ∷ p) [] h = absurd (omega arith)
whole_there (a ∷ p) (b ∷ q) h =
    let k = split_common a b (length p) p q h in
    let m = whole_there p q k.1 in
    let e = k.0 in
    rw (m, e)

-- ---- byte by byte

pub common_on : (p q : List ℕ) (j : ℕ) → j < length p → j < length q → get_or p j 0 ≡ get_or q j 0
    → common p q ≡ j + common (drop j p) (drop j q) → common p q ≡ j + 1 + common (drop (j + 1) p) (drop (j + 1) q)
common_on p q j h k e m =
    let c = common_more (drop (suc j) p) (drop (suc j) q) (get_or p j 0) (get_or q j 0) e in
    let d : common (drop j p) (drop j q) ≡ suc (common (drop (suc j) p) (drop (suc j) q)) =
    rw (drop-cons p j 0 h, drop-cons q j 0 k) c in
    rw (add-one j) (omega arith)

nil_first : (q : List ℕ) → common [] q ≡ 0
unfolding common
nil_first q = refl

nil_second : (p : List ℕ) → common p [] ≡ 0
unfolding common
nil_second [] = refl
nil_second (a ∷ p) = refl

nothing_common : (p q : List ℕ) (j : ℕ) → (j < length p → j < length q → get_or p j 0 ≡ get_or q j 0 → ⊥)
    → common (drop j p) (drop j q) ≡ 0
nothing_common p q j h = by (ltb j (length p)) (ltb j (length q)) refl refl
  where
    by : (a b : Bool) → ltb j (length p) ≡ a → ltb j (length q) ≡ b → common (drop j p) (drop j q) ≡ 0
    by false b e f = rw (past p j (ltb-false j (length p) e)) (nil_first (drop j q))
    by true false e f = rw (past q j (ltb-false j (length q) f)) (nil_second (drop j p))
    by true true e f =
        let k = ltb-true j (length p) e in
        let l = ltb-true j (length q) f in
        rw (drop-cons p j 0 k, drop-cons q j 0 l) (common_none (drop (suc j) p) (drop (suc j) q) (get_or p j 0) (get_or q j 0) (h k l))

pub common_ends : (p q : List ℕ) (j : ℕ) → (j < length p → j < length q → get_or p j 0 ≡ get_or q j 0 → ⊥)
    → common p q ≡ j + common (drop j p) (drop j q) → common p q ≡ j
common_ends p q j h e = let z = nothing_common p q j h in omega arith
