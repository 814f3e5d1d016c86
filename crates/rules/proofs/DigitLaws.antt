-- Laws of hexadecimal digits (specs/Text): digits write numbers, and numbers read digits.
use mathlib.Core.Path.{◌≡◌, refl, sym, ap, ◌∙◌}
use mathlib.Core.Bool.{Bool, true, false, ◌&&◌, ◌||◌}
use mathlib.Core.List.{List, [], ◌∷◌, ◌++◌}
use mathlib.Core.Logic.{◌⊎◌, inl, inr, ⊎_elim}
use Prim.Native.Nat.{ℕ, zero, suc, ◌+◌, ◌-◌, ◌*◌, ◌/◌, ◌%◌, ◌^◌, ◌<◌, ◌≤◌}
use native.Mathlib.Nat.{not-suc-le-zero, eq-or-lt_of_le}
use native.Mathlib.Nat.{le_of_suc-le-suc, pow-suc, pow-zero}
use native.Mathlib.Nat.{lt-suc_self, le_step}
use native.Mathlib.Omega.{arith}
use borrow.Author.Tests.{leb-true, ltb-true, ltb-false, lt-ltb, le-ltb, le-leb, lt-leb}
use lib.Dec.{ltb, leb}
use lib.ListN.{length, get_or, take, length-append, get_or-append}
use lib.Seq.{get_or_at, get_or-take, take-suc, take_all, length-take-le}
use Rattle.rules.specs.Text.{digit, is_digit, digit_value, digits_of, number_of}
use Rattle.rules.proofs.ListLaws.{and_true}

-- ---- one digit

pub data DigitByte (b : ℕ) : Type 0 where
  decimal : 48 ≤ b → b ≤ 57 → DigitByte b
  letter : 97 ≤ b → b ≤ 102 → DigitByte b

or_true : (a b : Bool) → (a || b) ≡ true → (a ≡ true) ⊎ (b ≡ true)
or_true true b e = inl refl
or_true false b e = inr e

pub digit_byte : (b : ℕ) → is_digit b ≡ true → DigitByte b
unfolding is_digit
digit_byte b e =
    ⊎_elim
    (λ h. let p = and_true (leb 48 b) (leb b 57) h in decimal (leb-true _ _ p.0) (leb-true _ _ p.1))
    (λ h. let p = and_true (leb 97 b) (leb b 102) h in letter (leb-true _ _ p.0) (leb-true _ _ p.1))
    (or_true (leb 48 b && leb b 57) (leb 97 b && leb b 102) e)

pub digit_range : (b : ℕ) → is_digit b ≡ true → (48 ≤ b) × (b ≤ 102)
digit_range b e = range (digit_byte b e)
  where
    range : DigitByte b → (48 ≤ b) × (b ≤ 102)
    range (decimal l u) = (l, omega arith)
    range (letter l u) = (omega arith, u)

pub byte_digit : (b : ℕ) → DigitByte b → is_digit b ≡ true
unfolding is_digit
byte_digit b (decimal l u) = rw (le-leb 48 b l, le-leb b 57 u)
byte_digit b (letter l u) = rw (le-leb 48 b (omega arith), lt-leb b 57 (omega arith), le-leb 97 b l, le-leb b 102 u)

value_below : (b : ℕ) → DigitByte b → digit_value b < 16
unfolding digit_value
value_below b (decimal l u) = rw (lt-ltb b 58 (omega arith)) (omega arith)
value_below b (letter l u) = rw (le-ltb b 58 (omega arith)) (omega arith)

digit_value_lem : (b : ℕ) → DigitByte b → digit (digit_value b) ≡ b
unfolding digit_value digit
digit_value_lem b (decimal l u) = rw (lt-ltb b 58 (omega arith), lt-ltb (b - 48) 10 (omega arith)) (omega arith)
digit_value_lem b (letter l u) = rw (le-ltb b 58 (omega arith), le-ltb (b - 87) 10 (omega arith)) (omega arith)

pub digit_value_below : (b : ℕ) → is_digit b ≡ true → digit_value b < 16
digit_value_below b e = value_below b (digit_byte b e)

pub digit_digit_value : (b : ℕ) → is_digit b ≡ true → digit (digit_value b) ≡ b
digit_digit_value b e = digit_value_lem b (digit_byte b e)

small_or_not : (d : ℕ) → (d < 10) ⊎ (10 ≤ d)
small_or_not d = which (ltb d 10) refl
  where
    which : (t : Bool) → ltb d 10 ≡ t → (d < 10) ⊎ (10 ≤ d)
    which true e = inl (ltb-true _ _ e)
    which false e = inr (ltb-false _ _ e)

pub digit_value_digit : (d : ℕ) → digit_value (digit d) ≡ d
unfolding digit_value digit
digit_value_digit d =
    ⊎_elim
    (λ (h : d < 10). rw (lt-ltb d 10 h, lt-ltb (48 + d) 58 (omega arith)) (omega arith))
    (λ (h : 10 ≤ d). rw (le-ltb d 10 h, le-ltb (87 + d) 58 (omega arith)) (omega arith))
    (small_or_not d)

pub is_digit_digit : (d : ℕ) → d < 16 → is_digit (digit d) ≡ true
unfolding digit
is_digit_digit d l =
    ⊎_elim
    (λ (h : d < 10). rw (lt-ltb d 10 h) (byte_digit (48 + d) (decimal (omega arith) (omega arith))))
    (λ (h : 10 ≤ d). rw (le-ltb d 10 h) (byte_digit (87 + d) (letter (omega arith) (omega arith))))
    (small_or_not d)

-- ---- numbers and their digits

pub length_digits_of : (n v : ℕ) → length (digits_of n v) ≡ n
unfolding digits_of
length_digits_of zero v = refl
length_digits_of (suc n) v =
    length-append (digits_of n (v / 16)) (digit (v % 16) ∷ []) ∙ omega (arith, length_digits_of n (v / 16))

pub is_digit_digits_of : (n v i : ℕ) → i < n → is_digit (get_or (digits_of n v) i 0) ≡ true
unfolding digits_of
is_digit_digits_of zero v i l = absurd (not-suc-le-zero l)
is_digit_digits_of (suc n) v i l =
    let front = digits_of n (v / 16) in
    let long = length_digits_of n (v / 16) in
    ⊎_elim
    (λ (e : i ≡ n). rw (e, get_or_at front (digit (v % 16)) [] 0 n long) (is_digit_digit (v % 16) (omega arith)))
    (λ (h : i < n). rw (get_or-append front (digit (v % 16) ∷ []) 0 i (omega arith)) (is_digit_digits_of n (v / 16) i h))
    (eq-or-lt_of_le (le_of_suc-le-suc l))

pub number_of_snoc : (v : ℕ) (ds : List ℕ) (b : ℕ) → number_of v (ds ++ (b ∷ [])) ≡ 16 * number_of v ds + digit_value b
unfolding number_of
number_of_snoc v [] b = refl
number_of_snoc v (d ∷ ds) b = number_of_snoc (16 * v + digit_value d) ds b

pub number_of_digits_of : (n v : ℕ) → v < 16 ^ n → number_of 0 (digits_of n v) ≡ v
unfolding digits_of number_of
number_of_digits_of zero v h = omega (arith, pow-zero 16)
number_of_digits_of (suc n) v h =
    number_of_snoc 0 (digits_of n (v / 16)) (digit (v % 16))
    ∙ rw (number_of_digits_of n (v / 16) (omega (arith, pow-suc 16 n)), digit_value_digit (v % 16)) (omega arith)

-- the last digit apart from those before it
init_last : (n : ℕ) (ds : List ℕ) → length ds ≡ suc n → ds ≡ take n ds ++ (get_or ds n 0 ∷ [])
init_last n ds e = sym (take_all (suc n) ds (omega arith)) ∙ take-suc ds n 0 (omega arith)

abbrev pub AllDigits : ℕ → List ℕ → Type 0
AllDigits n ds = (i : ℕ) → i < n → is_digit (get_or ds i 0) ≡ true

init_digits : (n : ℕ) (ds : List ℕ) → AllDigits (suc n) ds → AllDigits n (take n ds)
init_digits n ds h i l = rw (get_or-take n ds i 0 l) (h i (le_step l))

number_of_init : (n : ℕ) (ds : List ℕ) → length ds ≡ suc n
    → number_of 0 ds ≡ 16 * number_of 0 (take n ds) + digit_value (get_or ds n 0)
number_of_init n ds e = ap (number_of 0) (init_last n ds e) ∙ number_of_snoc 0 (take n ds) (get_or ds n 0)

no_digits : (ds : List ℕ) → length ds ≡ 0 → [] ≡ ds
no_digits ds e = take_all 0 ds (omega arith)

pub number_of_below : (n : ℕ) (ds : List ℕ) → length ds ≡ n → AllDigits n ds → number_of 0 ds < 16 ^ n
unfolding number_of
number_of_below zero ds e h = rw (← no_digits ds e) (omega arith)
number_of_below (suc n) ds e h =
    let front = number_of_below n (take n ds) (length-take-le n ds (omega arith)) (init_digits n ds h) in
    omega (arith, number_of_init n ds e, digit_value_below (get_or ds n 0) (h n (lt-suc_self n)), pow-suc 16 n)

pub digits_of_number_of : (n : ℕ) (ds : List ℕ) → length ds ≡ n → AllDigits n ds → digits_of n (number_of 0 ds) ≡ ds
unfolding digits_of
digits_of_number_of zero ds e h = no_digits ds e
digits_of_number_of (suc n) ds e h =
    let last : is_digit (get_or ds n 0) ≡ true = h n (lt-suc_self n) in
    let small : digit_value (get_or ds n 0) < 16 = digit_value_below (get_or ds n 0) last in
    let is = number_of_init n ds e in
    let quotient : number_of 0 ds / 16 ≡ number_of 0 (take n ds) = omega arith in
    let rest : number_of 0 ds % 16 ≡ digit_value (get_or ds n 0) = omega arith in
    let front = digits_of_number_of n (take n ds) (length-take-le n ds (omega arith)) (init_digits n ds h) in
    rw (quotient, rest, front, digit_digit_value (get_or ds n 0) last) (sym (init_last n ds e))
