-- What a quotient and its remainder are, apart from how they are computed (change request A2), for integers a by b, where b is not 0.
use Rattle.std.specs.Prelude.{◌≡◌, ◌<◌, ℤ, pos, negsuc, nat_abs, ◌+ℤ◌, ◌*ℤ◌, ◌≤ℤ◌}

-- q is not above the exact quotient of a by b: q times b is not above a, or, since a negative b turns the order round, not below it
abbrev pub NotAbove : ℤ → ℤ → ℤ → Type 0
NotAbove a (pos b) q = (q *ℤ pos b) ≤ℤ a
NotAbove a (negsuc b) q = a ≤ℤ (q *ℤ negsuc b)

-- "the greatest whole number not above the exact one"
pub record Greatest (a b q : ℤ) : Type 0 where
  pub not_above : NotAbove a b q
  pub greatest : (p : ℤ) → NotAbove a b p → p ≤ℤ q

-- r is 0 or has the sign of b
abbrev pub HasSign : ℤ → ℤ → Type 0
HasSign (pos b) r = pos 0 ≤ℤ r
HasSign (negsuc b) r = r ≤ℤ pos 0

-- "and the remainder follows from it": what is left over, 0 or of the divisor's sign, and smaller in size than the divisor
pub record Division (a b q r : ℤ) : Type 0 where
  pub whole : a ≡ q *ℤ b +ℤ r
  pub sign : HasSign b r
  pub smaller : nat_abs r < nat_abs b

-- "Divisor zero and -2147483648 by -1 stay": the two cases in which there is no such quotient in the signed range
pub record Apart (a b : ℤ) : Type 0 where
  pub not_zero : b ≡ pos 0 → ⊥
  pub not_least : a ≡ negsuc 2147483647 → b ≡ negsuc 0 → ⊥
