-- The laws of a word's bits: under or, exclusive or and not; one bit set; the lowest bit, and a word without it.
use mathlib.Core.Path.{◌≡◌, refl, ap, sym, ◌∙◌}
use mathlib.Core.Bool.{Bool, true, false, cond}
use Prim.Native.Nat.{ℕ, zero, suc, ◌+◌, ◌*◌, ◌-◌, ◌/◌, ◌%◌, ◌^◌, ◌<◌, ◌≤◌, max}
use native.Mathlib.Nat.{one-mul, mod-eq_of_lt, pow-suc, two-pow-succ}
use native.Mathlib.Omega.{arith}
use lib.Pow.{pow-lt}
use lib.Bits.{bit_and, bit_or, bit_xor, xor_add_and, and_step, and_self, and_mask}
use lib.Count.{count_trailing_zeros, under}
use lib.Dec.{eqb, eqb-suc-suc, eqb-zero-suc, eqb-suc-zero}
use borrow.Author.Tests.{eqb-true, eqb-false}
use Rattle.std.proofs.lemmas.Nat.Bits.{bit_at_lowest, bit_at-suc, bit_at-zero, bit_at_or, bit_at_xor, bit_at_ones}
use Rattle.bits.specs.Bit.{bit, with_bit}

-- ---- a bit by itself

pub bit_most : (w j : ℕ) → bit w j ≤ 1
unfolding bit
bit_most w j = omega arith

bit_zero : (w : ℕ) → bit w 0 ≡ w % 2
unfolding bit
bit_zero = bit_at_lowest

bit_suc : (w j : ℕ) → bit w (suc j) ≡ bit (w / 2) j
unfolding bit
bit_suc = bit_at-suc

-- 0 has no bit
pub no_bit : (j : ℕ) → bit 0 j ≡ 0
unfolding bit
no_bit = bit_at-zero

-- twice a word has its bits one place up
double_even : (w : ℕ) → bit (w * 2) 0 ≡ 0
double_even w = bit_zero (w * 2) ∙ omega arith

double_up : (w j : ℕ) → bit (w * 2) (suc j) ≡ bit w j
double_up w j =
    let half : w * 2 / 2 ≡ w = omega arith in
    bit_suc (w * 2) j ∙ ap (λ (x : ℕ). bit x j) half

-- ---- or, and one bit set

pub bit_of_or : (a b j : ℕ) → bit (bit_or a b) j ≡ max (bit a j) (bit b j)
unfolding bit
bit_of_or = bit_at_or

-- 2 ^ i has the one bit i
bit_pow : (i j : ℕ) → bit (2 ^ i) j ≡ cond (eqb j i) 1 0
bit_pow zero zero = bit_zero 1
bit_pow (suc i) zero = rw (pow-suc 2 i, eqb-zero-suc) (double_even (2 ^ i))
bit_pow zero (suc j) = bit_suc 1 j ∙ no_bit j ∙ rw eqb-suc-zero
bit_pow (suc i) (suc j) = rw (pow-suc 2 i, eqb-suc-suc) (double_up (2 ^ i) j ∙ bit_pow i j)

pub bit_with : (w i j : ℕ) → bit (with_bit w i) j ≡ max (bit w j) (cond (eqb j i) 1 0)
unfolding with_bit
bit_with w i j = bit_of_or w (2 ^ i) j ∙ ap (λ (x : ℕ). max (bit w j) x) (bit_pow i j)

-- what the code's `1 << j` is
pub shifted : (j : ℕ) → j < 32 → 1 * 2 ^ j % 4294967296 ≡ 2 ^ j
shifted j h = rw one-mul (mod-eq_of_lt (pow-lt h))

-- ---- exclusive or, and not

pub bit_of_xor : (a b j : ℕ) → bit (bit_xor a b) j ≡ (bit a j + bit b j) % 2
unfolding bit
bit_of_xor = bit_at_xor

-- a word of k bits, all of them set
bit_ones : (k j : ℕ) → j < k → bit (2 ^ k - 1) j ≡ 1
unfolding bit
bit_ones = bit_at_ones

-- the code's `!w`
pub bit_of_not : (k w j : ℕ) → w < 2 ^ k → j < k → bit (2 ^ k - 1 - w) j ≡ 1 - bit w j
bit_of_not k w j l h =
    let mask = 2 ^ k - 1 in
    let both : bit_and w mask ≡ w = and_mask w k ∙ mod-eq_of_lt l in
    let turned : mask - w ≡ bit_xor w mask = omega (arith, xor_add_and w mask, both) in
    ap (λ (x : ℕ). bit x j) turned ∙ bit_of_xor w mask j ∙ omega (arith, bit_ones k j h, bit_most w j)

-- ---- the lowest bit

-- j is the lowest bit of a word of k bits, and `w & (w - 1)` the word without it
pub record Lowest (k w j : ℕ) : Type 0 where
  pub short : j < k
  pub set : bit w j ≡ 1
  pub below : (i : ℕ) → i < j → bit w i ≡ 0
  pub gone : bit (bit_and w (w - 1)) j ≡ 0
  pub kept : (i : ℕ) → (i ≡ j → ⊥) → bit (bit_and w (w - 1)) i ≡ bit w i

-- of an odd word it is bit 0
lowest_odd : (k w : ℕ) → w % 2 ≡ 1 → Lowest (suc k) w 0
lowest_odd k w odd = record {
  short = omega arith;
  set = bit_zero w ∙ odd;
  below = λ i h. absurd (omega arith);
  gone = rw doubled (double_even (w / 2));
  kept = kept;
}
  where
    doubled : bit_and w (w - 1) ≡ w / 2 * 2
    doubled =
        let down : (w - 1) / 2 ≡ w / 2 = omega arith in
        and_step w (w - 1) ∙ rw (down, and_self (w / 2)) (omega arith)

    kept : (i : ℕ) → (i ≡ 0 → ⊥) → bit (bit_and w (w - 1)) i ≡ bit w i
    kept zero ne = absurd (ne refl)
    kept (suc i) ne = rw doubled (double_up (w / 2) i ∙ sym (bit_suc w i))

-- of an even one it is one above its half's
lowest_even : (k w j : ℕ) → w % 2 ≡ 0 → 0 < w → Lowest k (w / 2) j → Lowest (suc k) w (suc j)
lowest_even k w j even some l = record {
  short = omega (arith, l.short);
  set = bit_suc w j ∙ l.set;
  below = below;
  gone = rw doubled (double_up _ j ∙ l.gone);
  kept = kept;
}
  where
    doubled : bit_and w (w - 1) ≡ bit_and (w / 2) (w / 2 - 1) * 2
    doubled =
        let down : (w - 1) / 2 ≡ w / 2 - 1 = omega arith in
        and_step w (w - 1) ∙ rw down (omega arith)

    below : (i : ℕ) → i < suc j → bit w i ≡ 0
    below zero h = bit_zero w ∙ even
    below (suc i) h = bit_suc w i ∙ l.below i (omega arith)

    kept : (i : ℕ) → (i ≡ suc j → ⊥) → bit (bit_and w (w - 1)) i ≡ bit w i
    kept zero ne = rw doubled (double_even _ ∙ sym (below zero (omega arith)))
    kept (suc i) ne = rw doubled (double_up _ i ∙ l.kept i (λ e. ne (ap suc e)) ∙ sym (bit_suc w i))

-- the code's `trailing_zeros`
pub lowest : (k w : ℕ) → 0 < w → w < 2 ^ k → Lowest k w (count_trailing_zeros k w)
unfolding count_trailing_zeros
lowest zero w some short = absurd (omega arith)
lowest (suc k) w some short = by (w % 2) refl (λ h. lowest k (w / 2) h (omega (arith, two-pow-succ k)))
  where
    by : (d : ℕ) → w % 2 ≡ d → (0 < w / 2 → Lowest k (w / 2) (count_trailing_zeros k (w / 2)))
        → Lowest (suc k) w (under (w % 2) (count_trailing_zeros k (w / 2)))
    by zero e half = rw e (lowest_even k w (count_trailing_zeros k (w / 2)) e some (half (omega arith)))
    by (suc zero) e half = rw e (lowest_odd k w e)
    by (suc (suc d)) e half = absurd (omega arith)

-- a bit of the word without its lowest is a bit of the word
pub without_keeps : {k w j : ℕ} → Lowest k w j → (i : ℕ) → bit (bit_and w (w - 1)) i ≡ 1 → bit w i ≡ 1
without_keeps {k} {w} {j} l i e = by (eqb i j) refl
  where
    by : (b : Bool) → eqb i j ≡ b → bit w i ≡ 1
    by true q = absurd (omega (arith, ap (bit (bit_and w (w - 1))) (eqb-true i j q), l.gone, e))
    by false q = sym (l.kept i (eqb-false i j q)) ∙ e
