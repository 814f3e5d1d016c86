-- What specs/Division asks of a quotient and its remainder holds of those of specs/Value, and of no other numbers: by a positive divisor on the
-- natural numbers, by a negative one from the opposite numbers.
use mathlib.Core.Path.{◌≡◌, refl, sym, ap, ◌∙◌}
use Prim.Native.Nat.{ℕ, zero, suc, ◌+◌, ◌-◌, ◌*◌, ◌/◌, ◌%◌, ◌<◌, ◌≤◌, zero-le, suc-le-suc}
use native.Mathlib.Omega.{arith}
use native.Mathlib.Nat.{le_antisymm, le_of_suc-le-suc, le_refl, le-suc, le_trans, lt_of_le_of_lt, lt_of_lt_of_le, not-suc-le-zero, suc-ne-zero, zero-lt-suc}
use native.Mathlib.Nat.{div-mul-le_self, lt-div-mul-add, le-div_iff_mul-le, div-lt_iff_lt-mul, div-eq_of_lt-le, div-lt_self, div-one}
use native.Mathlib.Nat.{mod-add-div, mod-lt}
use lib.Dec.{leb→le, le→leb}
use lib.IntN.{ℤ, pos, negsuc, neg_ℤ, nat_abs, ◌+ℤ◌, ◌-ℤ◌, ◌*ℤ◌}
use lib.IntN.{neg_ℤ-neg_ℤ, neg_ℤ-+ℤ, *ℤ-negsuc, *ℤ-zero, +ℤ_idl, +ℤ_idr, +ℤ_comm, +ℤ-neg_ℤ_cancel}
use lib.Signed.{mag, mag_shr, shr_z, ◌≤ℤ◌, le_z_yes, nat_abs-le}
use borrow.Author.Tests.{lt-ltb}
use Rattle.rules.specs.Value.{wrap, difference, product, rounded_down, quotient, remainder}
use Rattle.rules.specs.Division.{NotAbove, Greatest, HasSign, Division, Apart}
use Rattle.rules.proofs.ValueLaws.{InRange, wrap_within, difference_wrap}

-- ---- the order of integers

le_pos : {a b : ℕ} → a ≤ b → pos a ≤ℤ pos b
le_pos {a} {b} h = le_z_yes (le→leb a b h)

pub antisymmetric : (p q : ℤ) → p ≤ℤ q → q ≤ℤ p → p ≡ q
antisymmetric (pos p) (pos q) h k = ap pos (le_antisymm (leb→le p q h.le) (leb→le q p k.le))
antisymmetric (pos p) (negsuc q) h k = absurd h.le
antisymmetric (negsuc p) (pos q) h k = absurd k.le
antisymmetric (negsuc p) (negsuc q) h k = ap negsuc (le_antisymm (leb→le p q k.le) (leb→le q p h.le))

-- opposite numbers stand the other way round
turned : (a b : ℤ) → a ≤ℤ b → neg_ℤ b ≤ℤ neg_ℤ a
turned (pos zero) (pos zero) h = h
turned (pos zero) (pos (suc b)) h = le_z_yes tt
turned (pos (suc a)) (pos zero) h = absurd (not-suc-le-zero (leb→le (suc a) zero h.le))
turned (pos (suc a)) (pos (suc b)) h = le_z_yes (le→leb a b (le_of_suc-le-suc (leb→le (suc a) (suc b) h.le)))
turned (pos a) (negsuc b) h = absurd h.le
turned (negsuc a) (pos zero) h = le_pos zero-le
turned (negsuc a) (pos (suc b)) h = le_z_yes tt
turned (negsuc a) (negsuc b) h = le_pos (suc-le-suc (leb→le b a h.le))

-- -k is not above -(m + 1) exactly if m is below k
minus_le : (k m : ℕ) → m < k → neg_ℤ (pos k) ≤ℤ negsuc m
minus_le zero m h = absurd (not-suc-le-zero h)
minus_le (suc k) m h = le_z_yes (le→leb m k (le_of_suc-le-suc h))

le_minus : (k m : ℕ) → neg_ℤ (pos k) ≤ℤ negsuc m → m < k
le_minus zero m h = absurd h.le
le_minus (suc k) m h = suc-le-suc (leb→le m k h.le)

-- ---- by n + 1

not_above : (a : ℤ) (n : ℕ) → NotAbove a (pos (suc n)) (shr_z a (suc n))
not_above (pos m) n = le_pos (div-mul-le_self m (suc n))
not_above (negsuc m) n = minus_le (suc (m / suc n) * suc n) m (omega (arith, lt-div-mul-add {a = m} (zero-lt-suc n)))

greatest : (a : ℤ) (n : ℕ) (p : ℤ) → NotAbove a (pos (suc n)) p → p ≤ℤ shr_z a (suc n)
greatest (pos m) n (pos k) h = le_pos ((le-div_iff_mul-le (zero-lt-suc n)).1 (leb→le (k * suc n) m h.le))
greatest (pos m) n (negsuc k) h = le_z_yes tt
greatest (negsuc m) n (pos k) h = absurd h.le
greatest (negsuc m) n (negsuc k) h =
    le_z_yes (le→leb (m / suc n) k (le_of_suc-le-suc ((div-lt_iff_lt-mul (zero-lt-suc n)).1 (le_minus (suc k * suc n) m h))))

minus_plus : (k r m : ℕ) → k ≡ suc m + r → neg_ℤ (pos k) +ℤ pos r ≡ negsuc m
minus_plus zero r m e = absurd (omega arith)
minus_plus (suc k) r m e = rw (lt-ltb r (suc k) (omega arith)) (ap negsuc (omega arith))

-- what is left over of a
rest : ℤ → ℕ → ℕ
rest (pos m) n = m % suc n
rest (negsuc m) n = n - m % suc n

rest_whole : (a : ℤ) (n : ℕ) → shr_z a (suc n) *ℤ pos (suc n) +ℤ pos (rest a n) ≡ a
unfolding rest
rest_whole (pos m) n = ap pos (omega (arith, mod-add-div m (suc n)))
rest_whole (negsuc m) n =
    minus_plus (suc (m / suc n) * suc n) (n - m % suc n) m (omega (arith, mod-add-div m (suc n), mod-lt m (zero-lt-suc n)))

rest_below : (a : ℤ) (n : ℕ) → rest a n < suc n
unfolding rest
rest_below (pos m) n = mod-lt m (zero-lt-suc n)
rest_below (negsuc m) n = omega arith

-- and no other quotient leaves so little
only : (q : ℤ) (n r : ℕ) → r < suc n → shr_z (q *ℤ pos (suc n) +ℤ pos r) (suc n) ≡ q
only (pos k) n r h = ap pos (div-eq_of_lt-le (suc n) (omega arith) (omega arith))
only (negsuc k) n r h =
    ap (λ (z : ℤ). shr_z z (suc n)) (minus_plus (suc k * suc n) r (k * suc n + (n - r)) (omega arith))
    ∙ ap negsuc (div-eq_of_lt-le (suc n) (omega arith) (omega arith))

-- so a is divided by n + 1, and in no other way
divided_by : (a : ℤ) (n : ℕ) → Division a (pos (suc n)) (shr_z a (suc n)) (pos (rest a n))
divided_by a n = record { whole = sym (rest_whole a n); sign = le_pos zero-le; smaller = rest_below a n }

only_by : (a : ℤ) (n : ℕ) (q r : ℤ) → Division a (pos (suc n)) q r → shr_z a (suc n) ≡ q
only_by a n q (pos r) d = ap (λ (z : ℤ). shr_z z (suc n)) d.whole ∙ only q n r d.smaller
only_by a n q (negsuc r) d = absurd d.sign.le

-- ---- of opposite numbers

by_more_than_0 : (n : ℕ) → pos (suc n) ≡ pos 0 → ⊥
by_more_than_0 n e = suc-ne-zero n (ap nat_abs e)

size_opposite : (z : ℤ) → nat_abs (neg_ℤ z) ≡ nat_abs z
size_opposite (pos zero) = refl
size_opposite (pos (suc n)) = refl
size_opposite (negsuc n) = refl

product_opposite : (q b : ℤ) → q *ℤ neg_ℤ b ≡ neg_ℤ (q *ℤ b)
product_opposite q (pos zero) = rw *ℤ-zero
product_opposite q (pos (suc n)) = *ℤ-negsuc q n
product_opposite q (negsuc n) = rw (*ℤ-negsuc, neg_ℤ-neg_ℤ)

not_above_opposite : (a b q : ℤ) → (b ≡ pos 0 → ⊥) → NotAbove a b q → NotAbove (neg_ℤ a) (neg_ℤ b) q
not_above_opposite a (pos zero) q h k = absurd (h refl)
not_above_opposite a (pos (suc n)) q h k = rw (product_opposite q (pos (suc n))) (turned (q *ℤ pos (suc n)) a k)
not_above_opposite a (negsuc n) q h k = rw (product_opposite q (negsuc n)) (turned a (q *ℤ negsuc n) k)

sign_opposite : (b r : ℤ) → (b ≡ pos 0 → ⊥) → HasSign b r → HasSign (neg_ℤ b) (neg_ℤ r)
sign_opposite (pos zero) r h k = absurd (h refl)
sign_opposite (pos (suc n)) r h k = turned (pos 0) r k
sign_opposite (negsuc n) r h k = turned r (pos 0) k

opposite : {a b q r : ℤ} → (b ≡ pos 0 → ⊥) → Division a b q r → Division (neg_ℤ a) (neg_ℤ b) q (neg_ℤ r)
opposite {a} {b} {q} {r} h d =
    record {
      whole = ap neg_ℤ d.whole ∙ neg_ℤ-+ℤ (q *ℤ b) r ∙ ap (λ (z : ℤ). z +ℤ neg_ℤ r) (sym (product_opposite q b));
      sign = sign_opposite b r h d.sign;
      smaller = rw (size_opposite r, size_opposite b) d.smaller;
    }

-- ---- by any divisor but 0

left_over : ℤ → ℤ → ℤ
left_over a (pos zero) = a
left_over a (pos (suc n)) = pos (rest a n)
left_over a (negsuc n) = neg_ℤ (pos (rest (neg_ℤ a) n))

divided : (a b : ℤ) → (b ≡ pos 0 → ⊥) → Division a b (rounded_down a b) (left_over a b)
unfolding left_over
divided a (pos zero) h = absurd (h refl)
divided a (pos (suc n)) h = divided_by a n
divided a (negsuc n) h = rw neg_ℤ-neg_ℤ at (opposite (by_more_than_0 n) (divided_by (neg_ℤ a) n))

down_greatest : (a b : ℤ) → (b ≡ pos 0 → ⊥) → Greatest a b (rounded_down a b)
down_greatest a (pos zero) h = absurd (h refl)
down_greatest a (pos (suc n)) h = record { not_above = not_above a n; greatest = greatest a n }
down_greatest a (negsuc n) h =
    record {
      not_above = rw neg_ℤ-neg_ℤ at (not_above_opposite (neg_ℤ a) (pos (suc n)) (shr_z (neg_ℤ a) (suc n)) (by_more_than_0 n) (not_above (neg_ℤ a) n));
      greatest = λ p k. greatest (neg_ℤ a) n p (not_above_opposite a (negsuc n) p h k);
    }

-- the remainder follows from the quotient
follows : {a b q r : ℤ} → Division a b q r → a -ℤ q *ℤ b ≡ r
follows {a} {b} {q} {r} d =
    ap (λ (z : ℤ). z -ℤ q *ℤ b) (d.whole ∙ +ℤ_comm (q *ℤ b) r) ∙ +ℤ-neg_ℤ_cancel r (q *ℤ b)

-- whatever divides a by b so is the quotient rounded down
down : (a b q r : ℤ) → (b ≡ pos 0 → ⊥) → Division a b q r → rounded_down a b ≡ q
down a (pos zero) q r h d = absurd (h refl)
down a (pos (suc n)) q r h d = only_by a n q r d
down a (negsuc n) q r h d = only_by (neg_ℤ a) n q (neg_ℤ r) (opposite h d)

-- a dividend and a divisor have one quotient and one remainder
pub one_division : (a b : ℤ) {p q r s : ℤ} → (b ≡ pos 0 → ⊥) → Division a b p r → Division a b q s → (p ≡ q) × (r ≡ s)
one_division a b {p} {q} {r} {s} h d e = (same, sym (follows d) ∙ ap (λ (z : ℤ). a -ℤ z *ℤ b) same ∙ follows e)
  where
    same : p ≡ q
    same = sym (down a b p r h d) ∙ down a b q s h e

-- and one greatest whole number is not above the exact quotient
pub one_greatest : {a b p q : ℤ} → Greatest a b p → Greatest a b q → p ≡ q
one_greatest {p = p} {q = q} g h = antisymmetric p q (h.greatest p g.not_above) (g.greatest q h.not_above)

-- ---- the quotient and the remainder of values

mag_size : (r : ℤ) → mag r ≤ nat_abs r
mag_size (pos r) = le_refl r
mag_size (negsuc r) = le-suc r

within : (a b : ℤ) → InRange a → Apart a b → InRange (rounded_down a b)
within a (pos zero) f h = absurd (h.not_zero refl)
within a (pos (suc n)) f h = record { sfits = lt_of_le_of_lt (mag_shr a (suc n)) f.sfits }
within (pos m) (negsuc n) f h = record { sfits = lt_of_le_of_lt (le_trans (mag_shr (neg_ℤ (pos m)) (suc n)) (mag_minus m)) f.sfits }
  where
    mag_minus : (m : ℕ) → mag (neg_ℤ (pos m)) ≤ m
    mag_minus zero = zero-le
    mag_minus (suc m) = le-suc m
within (negsuc m) (negsuc zero) f h =
    let k : m < 2147483648 = f.sfits in
    let apart : m ≡ 2147483647 → ⊥ = λ e. h.not_least (ap negsuc e) refl in
    rw div-one (record { sfits = omega arith })
within (negsuc m) (negsuc (suc n)) f h = record { sfits = lt_of_lt_of_le (div-lt_self (zero-lt-suc m) (omega arith)) f.sfits }

-- where the quotient rounded down is a value, nothing wraps
pub quotient_within : (a b : ℤ) {q : ℤ} → rounded_down a b ≡ q → InRange q → quotient a b ≡ q
unfolding quotient
quotient_within a b {q} e f = ap wrap e ∙ wrap_within q f

quotient_is : (a b : ℤ) → InRange a → Apart a b → quotient a b ≡ rounded_down a b
quotient_is a b f h = quotient_within a b refl (within a b f h)

remainder_is : (a b : ℤ) → InRange a → InRange b → Apart a b → remainder a b ≡ left_over a b
unfolding remainder
remainder_is a b f g h =
    ap (λ (q : ℤ). wrap (a -ℤ q *ℤ b)) (quotient_is a b f h) ∙ ap wrap (follows left) ∙ wrap_within (left_over a b) (small left.smaller)
  where
    left : Division a b (rounded_down a b) (left_over a b)
    left = divided a b h.not_zero

    small : {r : ℤ} → nat_abs r < nat_abs b → InRange r
    small {r} k = record { sfits = lt_of_le_of_lt (mag_size r) (lt_of_lt_of_le k (nat_abs-le b g.sfits)) }

-- "the quotient is … the greatest whole number not above the exact one"
pub quotient_greatest : (a b : ℤ) → InRange a → Apart a b → Greatest a b (quotient a b)
quotient_greatest a b f h = rw (quotient_is a b f h) (down_greatest a b h.not_zero)

-- "and the remainder follows from it"
pub quotient_and_remainder : (a b : ℤ) → InRange a → InRange b → Apart a b → Division a b (quotient a b) (remainder a b)
quotient_and_remainder a b f g h = rw (quotient_is a b f h, remainder_is a b f g h) (divided a b h.not_zero)

-- ---- the cases that 01 names

-- "by zero it is 0"
pub quotient_by_zero : (a : ℤ) → quotient a (pos 0) ≡ pos 0
unfolding quotient wrap
quotient_by_zero a = refl

-- "-2147483648 by -1 is -2147483648", and leaves nothing over
pub least_by_minus_one : (quotient (negsuc 2147483647) (negsuc 0) ≡ negsuc 2147483647) × (remainder (negsuc 2147483647) (negsuc 0) ≡ pos 0)
unfolding quotient remainder wrap
least_by_minus_one = (refl, refl)

pub quotient_by_minus_one : (a : ℤ) → quotient a (negsuc 0) ≡ difference (pos 0) a
unfolding quotient difference
quotient_by_minus_one a = ap wrap (over_one (neg_ℤ a) ∙ sym (+ℤ_idl (neg_ℤ a)))
  where
    over_one : (a : ℤ) → shr_z a 1 ≡ a
    over_one (pos a) = rw div-one
    over_one (negsuc a) = rw div-one

-- "so by zero it is the dividend"
pub remainder_by_zero : (a : ℤ) → InRange a → remainder a (pos 0) ≡ a
unfolding remainder
remainder_by_zero a h = ap (λ (z : ℤ). wrap (a -ℤ z)) (*ℤ-zero (quotient a (pos 0))) ∙ ap wrap (+ℤ_idr a) ∙ wrap_within a h

-- the remainder by wrapped steps
pub remainder_by_steps : (a b : ℤ) → remainder a b ≡ difference a (product (quotient a b) b)
unfolding product remainder
remainder_by_steps a b = sym (difference_wrap a (quotient a b *ℤ b))
