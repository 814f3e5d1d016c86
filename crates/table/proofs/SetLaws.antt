-- Sets of nodes as bits: what a set holds once a node is put in, or once a word is emptied.
use mathlib.Core.Path.{◌≡◌, refl, ◌∙◌}
use mathlib.Core.Bool.{Bool, true, false, cond}
use mathlib.Core.List.{List}
use Prim.Native.Nat.{ℕ, ◌+◌, ◌*◌, ◌/◌, ◌%◌, ◌<◌, ◌≤◌, max}
use native.Mathlib.Omega.{arith}
use lib.Dec.{eqb, ltb}
use lib.ListN.{length, get_or, set, length-set, replicate, get_or-replicate, get_or-eq_default}
use lib.Seq.{get_or-set_same, get_or-set_other}
use borrow.Author.Tests.{eqb-true, eqb-false, eq-eqb, ne_eqb, ltb-true, ltb-false}
use Rattle.bits.specs.Bit.{bit, with_bit}
use Rattle.bits.proofs.BitLaws.{bit_most, bit_with, no_bit}
use Rattle.table.specs.inside.Sets.{held, put}

-- 1 at x, otherwise 0
abbrev pub at_x : ℕ → ℕ → ℕ
at_x x k = cond (eqb k x) 1 0

pub data Place (x k : ℕ) : Type 0 where
  is : k ≡ x → at_x x k ≡ 1 → Place x k
  is_not : at_x x k ≡ 0 → Place x k

pub place : (x k : ℕ) → Place x k
place x k = by (eqb k x) refl
  where
    by : (b : Bool) → eqb k x ≡ b → Place x k
    by true e = is (eqb-true k x e) (rw e)
    by false e = is_not (rw e)

pub held_most : (row : List ℕ) (k : ℕ) → held row k ≤ 1
unfolding held
held_most row k = bit_most (get_or row (k / 32) 0) (k % 32)

pub held_room : (row : List ℕ) (k : ℕ) → held row k ≡ 1 → k / 32 < length row
unfolding held
held_room row k e = by (ltb (k / 32) (length row)) refl
  where
    by : (b : Bool) → ltb (k / 32) (length row) ≡ b → k / 32 < length row
    by true q = ltb-true (k / 32) (length row) q
    by false q =
        let past : get_or row (k / 32) 0 ≡ 0 = get_or-eq_default row 0 (ltb-false (k / 32) (length row) q) in
        absurd (omega (arith, rw past at e, no_bit (k % 32)))

-- by its word and its place there
pub held_at : (row : List ℕ) (i j : ℕ) → j < 32 → held row (32 * i + j) ≡ bit (get_or row i 0) j
unfolding held
held_at row i j h =
    let word : (32 * i + j) / 32 ≡ i = omega arith in
    let bit-j : (32 * i + j) % 32 ≡ j = omega arith in
    rw (word, bit-j)

pub length_put : (row : List ℕ) (x : ℕ) → length (put row x) ≡ length row
unfolding put
length_put row x = length-set row (x / 32) _

module _ (row : List ℕ) (x k : ℕ) (h : k / 32 < length row) where
  same_word : k / 32 ≡ x / 32 → held (put row x) k ≡ max (held row k) (cond (eqb (k % 32) (x % 32)) 1 0)
  unfolding held put
  same_word e =
      let w = get_or row (x / 32) 0 in
      rw (e, get_or-set_same row (x / 32) (with_bit w (x % 32)) 0 (rw e at h)) (bit_with w (x % 32) (k % 32))

  other_word : (k / 32 ≡ x / 32 → ⊥) → held (put row x) k ≡ held row k
  unfolding held put
  other_word ne = rw (get_or-set_other row (x / 32) (k / 32) (with_bit (get_or row (x / 32) 0) (x % 32)) 0 ne)

  -- a node put in is held, and the others as before
  pub held_put : held (put row x) k ≡ max (held row k) (at_x x k)
  held_put = by (eqb k x) refl (eqb (k / 32) (x / 32)) refl
    where
      by : (same : Bool) → eqb k x ≡ same → (word : Bool) → eqb (k / 32) (x / 32) ≡ word
          → held (put row x) k ≡ max (held row k) (at_x x k)
      by true e word f =
          let here : k ≡ x = eqb-true k x e in
          rw e (same_word (omega arith) ∙ rw (eq-eqb (k % 32) (x % 32) (omega arith)))
      by false e true f =
          let word : k / 32 ≡ x / 32 = eqb-true (k / 32) (x / 32) f in
          let other : k ≡ x → ⊥ = eqb-false k x e in
          rw e (same_word word ∙ rw (ne_eqb (k % 32) (x % 32) (λ g. other (omega arith))))
      by false e false f = rw e (other_word (eqb-false (k / 32) (x / 32) f) ∙ omega arith)

-- the empty set
pub none_held : (k : ℕ) → k < 1024 → held (replicate 32 0) k ≡ 0
unfolding held
none_held k h = rw (get_or-replicate {A = ℕ} 32 (k / 32) 0 0 (omega arith)) (no_bit (k % 32))

-- a set whose word i is emptied
module _ (row : List ℕ) (i : ℕ) (h : i < length row) where
  pub emptied : (k : ℕ) → k / 32 ≡ i → held (set row i 0) k ≡ 0
  unfolding held
  emptied k e = rw (e, get_or-set_same row i 0 0 h) (no_bit (k % 32))

  pub not_emptied : (k : ℕ) → (k / 32 ≡ i → ⊥) → held (set row i 0) k ≡ held row k
  unfolding held
  not_emptied k ne = rw (get_or-set_other row i (k / 32) 0 0 ne)
