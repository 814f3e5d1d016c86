-- The library's quotients beside the one rounded down. `div_euclid` rounds down by a positive divisor. The machine drops a fraction towards zero: between
-- like signs that is down; between unlike signs it is up, and the quotient rounded down is one less than the machine's quotient of the dividend one
-- nearer to zero.
use Rattle.std.proofs.Common.{◌≡◌, ℕ, zero, suc, ◌+◌, ◌-◌, ◌/◌, ◌<◌, ◌≤◌, Bool, true, false, cond, ltb, ℤ, pos, negsuc, ◌+ℤ◌, neg_ℤ, nat_abs, ◌≤ℤ◌, ◌<ℤ◌, sym, refl, ap, ◌∙◌, subst, zero-le, le_trans, le_of_suc-le-suc, not-suc-le-zero, lt_of_le_of_lt, zero-lt-suc, div-le_self, arith, ltb→lt, leb→le, w32, of_z, le-ltb}
use native.Mathlib.Nat.{div-lt_self, zero-div, le-suc}
use lib.IntN.{pred_ℤ, -ℤ_one}
use lib.Signed.{mag, quot_z, <ℤ_irrefl, lt_z}
use Rattle.std.specs.Int.{int_div_euclid}
use Rattle.rules.specs.Value.{word, value, wrap, rounded_down, quotient}
use Rattle.rules.proofs.ValueLaws.{InRange}
use Rattle.rules.proofs.DivisionLaws.{quotient_within}
use Rattle.value.proofs.Machine.{back, read_back, not_zero, is_less_lem, not_less, zero_fits}

-- ---- the two quotients

-- by a positive divisor
euclid : (a b : ℤ) → pos 0 <ℤ b → int_div_euclid a b ≡ rounded_down a b
euclid a (pos zero) p = absurd p.lt
euclid (pos m) (pos (suc n)) p = refl
euclid (negsuc m) (pos (suc n)) p = refl
euclid a (negsuc n) p = absurd p.lt

pub by_positive : (a b q : ℤ) → InRange a → InRange b → InRange q → pos 0 <ℤ b → q ≡ int_div_euclid (back w32 a) (back w32 b) → back w32 q ≡ quotient a b
by_positive a b q f g h p e =
    let same : q ≡ int_div_euclid a b = cc (read_back a f.sfits, read_back b g.sfits) in
    read_back q h.sfits ∙ sym (quotient_within a b (sym (same ∙ euclid a b p)) h)

-- between like signs
like_negative : (a b : ℤ) → a ≤ℤ pos 0 → b <ℤ pos 0 → rounded_down a b ≡ quot_z a b
like_negative a (pos n) h k = absurd (not-suc-le-zero (ltb→lt n zero k.lt))
like_negative (pos zero) (negsuc n) h k = rw zero-div
like_negative (pos (suc m)) (negsuc n) h k = absurd (not-suc-le-zero (leb→le (suc m) zero h.le))
like_negative (negsuc m) (negsuc n) h k = refl

-- its word, also where it is 2 ^ 31
like_word : (a b : ℤ) → InRange a → a ≤ℤ pos 0 → b <ℤ pos 0 → of_z w32 (quot_z a b) ≡ word (quot_z a b)
like_word a (pos n) f h k = absurd (not-suc-le-zero (ltb→lt n zero k.lt))
like_word (pos zero) (negsuc n) f h k = rw zero-div
like_word (pos (suc m)) (negsuc n) f h k = absurd (not-suc-le-zero (leb→le (suc m) zero h.le))
like_word (negsuc m) (negsuc n) f h k = let small : m < 2147483648 = f.sfits in omega (arith, div-le_self (suc m) (suc n))

pub like_quotient : (a b : ℤ) → InRange a → InRange b → a ≤ℤ pos 0 → b <ℤ pos 0 → back w32 (quot_z (back w32 a) (back w32 b)) ≡ quotient a b
unfolding quotient wrap
like_quotient a b f g h k =
    rw (read_back a f.sfits, read_back b g.sfits, like_negative a b h k)
    (ap value (like_word a b f h k))

-- between unlike signs
lowered : (k : ℕ) → pred_ℤ (neg_ℤ (pos k)) ≡ negsuc k
lowered zero = refl
lowered (suc k) = refl

pub unlike_negative : (a b : ℤ) → pos 0 <ℤ a → b <ℤ pos 0 → rounded_down a b ≡ quot_z (a +ℤ negsuc 0) b +ℤ negsuc 0
unlike_negative a (pos n) h k = absurd (not-suc-le-zero (ltb→lt n zero k.lt))
unlike_negative (pos zero) (negsuc n) h k = absurd h.lt
unlike_negative (negsuc m) (negsuc n) h k = absurd h.lt
unlike_negative (pos (suc m)) (negsuc n) h k = rw (-ℤ_one, -ℤ_one) (sym (lowered (m / suc n)))

-- ---- the answers of the library's calls, by the test that the code has made: the check finds them so, whatever stands beside the call

pub div_euclid_is : (a b q : ℤ) → InRange a → InRange b → mag q < 2147483648 → lt_z (back w32 (pos 0)) (back w32 b) ≡ true
    → q ≡ int_div_euclid (back w32 a) (back w32 b) → back w32 q ≡ quotient a b
div_euclid_is a b q f g h t e = by_positive a b q f g (record { sfits = h }) (is_less_lem (pos 0) b zero_fits g t) e

pub wrapping_div_is : (a b q : ℤ) → InRange a → InRange b → mag q < 2147483648 → lt_z (back w32 (pos 0)) (back w32 a) ≡ false → b <ℤ pos 0
    → q ≡ back w32 (quot_z (back w32 a) (back w32 b)) → back w32 q ≡ quotient a b
wrapping_div_is a b q f g h t k e = read_back q h ∙ e ∙ like_quotient a b f g (not_less (pos 0) a zero_fits f t) k

-- ---- how far the machine's quotient lies from zero: no further than its dividend, but that by -1 it may leave the range

minus_size : (r : ℕ) {a : ℕ} → r ≤ suc a → mag (neg_ℤ (pos r)) ≤ a
minus_size zero h = zero-le
minus_size (suc r) h = le_of_suc-le-suc h

natural_size : (a : ℕ) (b : ℤ) → mag (quot_z (pos a) b) ≤ a
natural_size a (pos b) = div-le_self a b
natural_size a (negsuc b) = minus_size (a / suc b) (le_trans (div-le_self a (suc b)) (le-suc a))

size : (a b : ℤ) → (b ≡ negsuc 0 → ⊥) → mag (quot_z a b) ≤ mag a
size (pos a) b m = natural_size a b
size (negsuc a) (pos b) m = minus_size (suc a / b) (div-le_self (suc a) b)
size (negsuc a) (negsuc zero) m = absurd (m refl)
size (negsuc a) (negsuc (suc b)) m = le_of_suc-le-suc (div-lt_self (zero-lt-suc a) (omega arith))

by_negative : {b : ℤ} → b <ℤ pos 0 → b ≡ pos 0 → ⊥
by_negative p e = <ℤ_irrefl (subst (λ (z : ℤ). z <ℤ pos 0) e p)

-- ---- "(a + z) / b + y" on what is read back

difference_size : (b : Bool) (q y : ℕ) → mag (cond b (negsuc (suc y - suc q)) (pos (q - suc y))) ≤ q + y
difference_size true q y = omega arith
difference_size false q y = omega arith

sum_size : (q y : ℤ) → mag (q +ℤ y) ≤ mag q + nat_abs y
sum_size (pos q) (pos y) = omega arith
sum_size (pos q) (negsuc y) = omega (arith, difference_size (ltb q (suc y)) q y)
sum_size (negsuc q) (pos y) = omega (arith, difference_size (ltb y (suc q)) y q)
sum_size (negsuc q) (negsuc y) = omega arith

abbrev over : ℤ → ℤ → ℤ → ℤ
over a b z = quot_z (back w32 (back w32 a +ℤ z)) (back w32 b)

pub record Steps (a b z y : ℤ) : Type 0 where
  pub dividend : InRange (back w32 a +ℤ z)
  pub asks : (0 < of_z w32 b) × InRange (over a b z)
  pub sum : InRange (back w32 (over a b z) +ℤ y)
  pub is : rounded_down a b ≡ quot_z (a +ℤ z) b +ℤ y → back w32 (back w32 (over a b z) +ℤ y) ≡ quotient a b

steps : (a b z y : ℤ) → InRange a → InRange b → (b ≡ pos 0 → ⊥) → InRange (a +ℤ z) → mag (quot_z (a +ℤ z) b) + nat_abs y < 2147483648 →
    Steps a b z y
steps a b z y f g n x h =
    let same-a = read_back a f.sfits in
    let same-b = read_back b g.sfits in
    let same-x = read_back (a +ℤ z) x.sfits in
    let in_range : InRange (quot_z (a +ℤ z) b) = record { sfits = omega (arith, h) } in
    let same-q = read_back (quot_z (a +ℤ z) b) in_range.sfits in
    let low : InRange (quot_z (a +ℤ z) b +ℤ y) = record { sfits = lt_of_le_of_lt (sum_size (quot_z (a +ℤ z) b) y) h } in
    record {
      dividend = rw same-a x;
      asks = (not_zero b g n, rw (same-a, same-b, same-x) in_range);
      sum = rw (same-a, same-b, same-x, same-q) low;
      is = λ e. rw (same-a, same-b, same-x, same-q) (read_back (quot_z (a +ℤ z) b +ℤ y) low.sfits ∙ sym (quotient_within a b e low));
    }

-- z goes towards zero. The code's z is -1 and its y -1; that no step leaves the range hangs only on z being no further from zero than 1, and y no
-- further than z.
pub lessened_steps : (a b z y : ℤ) → nat_abs z ≤ 1 → z ≤ℤ pos 0 → nat_abs y ≤ nat_abs z → InRange a → InRange b → pos 0 <ℤ a → b <ℤ pos 0 →
    Steps a b z y
lessened_steps (negsuc n) b z y l h m f g k p = absurd k.lt
lessened_steps (pos n) b z y l h m f g k p =
    let x : ℕ = n - nat_abs z in
    let is : pos n +ℤ z ≡ pos x = less z l h in
    steps (pos n) b z y f g (by_negative p) (rw is (record { sfits = omega (arith, f.sfits) }))
    (rw is (omega (arith, f.sfits, m, l, ltb→lt zero n k.lt, natural_size x b)))
  where
    less : (z : ℤ) → nat_abs z ≤ 1 → z ≤ℤ pos 0 → pos n +ℤ z ≡ pos (n - nat_abs z)
    less (pos zero) l h = ap pos (omega arith)
    less (pos (suc z)) l h = absurd (not-suc-le-zero (leb→le (suc z) zero h.le))
    less (negsuc z) l h = rw (le-ltb n (suc z) (omega (arith, l, ltb→lt zero n k.lt)))
