-- Eight digits are read at once: the masks leave of each lane its digit's value, and two lanes become one three times over.
use mathlib.Core.Path.{◌≡◌, refl, sym, ap, ◌∙◌}
use mathlib.Core.Bool.{true}
use mathlib.Core.List.{List, [], ◌∷◌}
use Prim.Native.Nat.{ℕ, zero, suc, ◌+◌, ◌-◌, ◌*◌, ◌/◌, ◌%◌, ◌^◌, ◌<◌, ◌≤◌}
use native.Mathlib.Nat.{mod-lt, lt_of_lt_of_le, div-add-mod', le-add_right}
use native.Mathlib.Omega.{arith}
use borrow.Author.Tests.{lt-ltb, le-ltb}
use lib.Arith.{digits_lt}
use lib.Bits.{bit_and, and_block, and_mask, and_high, and_zero_r}
use lib.ListN.{length, get_or, take}
use lib.Seq.{take-suc}
use lib.Pow.{pow_pos, pow-add, pow_mono, ones_lt, high, low}
use Rattle.std.specs.Int.{from_be_bytes, w64}
use Rattle.rules.specs.Text.{is_digit, digit_value, number_of}
use Rattle.rules.proofs.DigitLaws.{DigitByte, decimal, letter, digit_byte, digit_range, digit_value_below, number_of_snoc}
use Rattle.reading.specs.inside.Parts.{packed, HasDigits}

-- ---- the digits' values

value_of_bits : (b : ℕ) → DigitByte b → digit_value b ≡ b % 16 + 9 * (b / 64 % 2)
unfolding digit_value
value_of_bits b (decimal l u) = rw (lt-ltb b 58 (omega arith)) (omega arith)
value_of_bits b (letter l u) = rw (le-ltb b 58 (omega arith)) (omega arith)

-- of each lane the bit 64, which says whether its byte is a letter, and the low four bits, with nine more for a letter
values : (byte : ℕ → ℕ) (n : ℕ) → ((i : ℕ) → i < n → is_digit (byte i) ≡ true)
    → (bit_and (packed 8 byte n) (packed 8 (λ i. 64) n) ≡ 64 * packed 8 (λ i. byte i / 64 % 2) n)
    × (bit_and (packed 8 byte n) (packed 8 (λ i. 15) n) + 9 * packed 8 (λ i. byte i / 64 % 2) n
    ≡ packed 8 (λ i. digit_value (byte i)) n)
unfolding packed
values byte zero is = omega arith
values byte (suc n) is =
    let b = byte n in
    let digit = is n (omega arith) in
    let below : b < 256 = omega (arith, digit_range b digit) in
    let highs = and_block 8 (packed 8 byte n) (packed 8 (λ i. 64) n) b 64 below (omega arith) in
    let lows = and_block 8 (packed 8 byte n) (packed 8 (λ i. 15) n) b 15 below (omega arith) in
    let before = values byte n (λ i h. is i (omega arith)) in
    omega (arith, before, highs, lows, and_high b 1 6, and_mask b 4, value_of_bits b (digit_byte b digit))

-- ---- two lanes become one

-- the lanes by twos, as lanes of h bits
abbrev twos : ℕ → (ℕ → ℕ) → ℕ → ℕ
twos h lane i = lane (2 * i) * 2 ^ h + lane (suc (2 * i))

twos_small : (h : ℕ) (lane : ℕ → ℕ) (n : ℕ) → ((i : ℕ) → i < 2 * n → lane i < 2 ^ h)
    → (i : ℕ) → i < n → twos h lane i < 2 ^ (h + h)
twos_small h lane n small i l = rw (pow-add 2 h h) (digits_lt (small _ (omega arith)) (small _ (omega arith)))

-- a number, and on it the same number h bits lower
abbrev folded : ℕ → ℕ → ℕ
folded h x = x + x / 2 ^ h

-- u and v are small for their lanes, and y is what stands before them: folded, the lane of v holds both, and what falls from
-- y stays above it
module _ (h : ℕ) (y u v : ℕ) (small-u : u < 2 ^ h) (small-v : v < 2 ^ h) where
  folded_two : folded h ((y * 2 ^ (h + h) + u) * 2 ^ (h + h) + v)
      ≡ folded h y * 2 ^ (h + h + (h + h)) + ((y % 2 ^ h * 2 ^ h + u) * 2 ^ (h + h) + (u * 2 ^ h + v))
  folded_two =
      let b = 2 ^ h in
      let lower = (y * (b * b) + u) * b in
      let grouped : (y * (b * b) + u) * (b * b) ≡ lower * b = omega arith in
      let moved : ((y * (b * b) + u) * (b * b) + v) / b ≡ lower = rw grouped (high lower h small-v) in
      let parts = ap (λ (x : ℕ). x * (b * b * b)) (div-add-mod' y b) in
      rw (pow-add 2 (h + h) (h + h), pow-add 2 h h) (omega (arith, moved, parts))

  merged_two : (m : ℕ)
      → bit_and (folded h ((y * 2 ^ (h + h) + u) * 2 ^ (h + h) + v)) (m * 2 ^ (h + h + (h + h)) + (2 ^ (h + h) - 1))
      ≡ bit_and (folded h y) m * 2 ^ (h + h + (h + h)) + (u * 2 ^ h + v)
  merged_two m =
      let k = h + h in
      let above = y % 2 ^ h * 2 ^ h + u in
      let both = u * 2 ^ h + v in
      let above-small : above < 2 ^ k = rw (pow-add 2 h h) (digits_lt (mod-lt y (pow_pos h)) small-u) in
      let both_small : both < 2 ^ k = rw (pow-add 2 h h) (digits_lt small-u small-v) in
      let field-small : above * 2 ^ k + both < 2 ^ (k + k) = rw (pow-add 2 k k) (digits_lt above-small both_small) in
      let mask-small : 2 ^ k - 1 < 2 ^ (k + k) = lt_of_lt_of_le (ones_lt k) (pow_mono (le-add_right k k)) in
      let left = and_mask (above * 2 ^ k + both) k ∙ low above k both_small in
      rw folded_two
      (and_block (k + k) (folded h y) m (above * 2 ^ k + both) (2 ^ k - 1) field-small mask-small
      ∙ ap (λ (x : ℕ). bit_and (folded h y) m * 2 ^ (k + k) + x) left)

merged : (h : ℕ) (lane : ℕ → ℕ) (n : ℕ) → ((i : ℕ) → i < 2 * n → lane i < 2 ^ h)
    → bit_and (folded h (packed (h + h) lane (2 * n))) (packed (h + h + (h + h)) (λ i. 2 ^ (h + h) - 1) n)
    ≡ packed (h + h + (h + h)) (twos h lane) n
unfolding packed
merged h lane zero small = and_zero_r (folded h 0)
merged h lane (suc n) small =
    let next : 2 * suc n ≡ suc (suc (2 * n)) = omega arith in
    let small-u = small (2 * n) (omega arith) in
    let small-v = small (suc (2 * n)) (omega arith) in
    rw (next, merged_two h (packed (h + h) lane (2 * n)) _ _ small-u small-v _, merged h lane n (λ i l. small i (omega arith)))

-- ---- eight digits

-- the lanes as digits, as pairs of digits, as fours, and as the word
abbrev digit_lanes : ℕ → ℕ
digit_lanes x = bit_and x 0x0f0f_0f0f_0f0f_0f0f + 9 * (bit_and x 0x4040_4040_4040_4040 / 64)

abbrev pair_lanes : ℕ → ℕ
pair_lanes x = bit_and (folded 4 (digit_lanes x)) 0x00ff_00ff_00ff_00ff

abbrev four_lanes : ℕ → ℕ
four_lanes x = bit_and (folded 8 (pair_lanes x)) 0x0000_ffff_0000_ffff

abbrev word_lane : ℕ → ℕ
word_lane x = bit_and (folded 16 (four_lanes x)) 0xffff_ffff

module _ (byte : ℕ → ℕ) (is : (i : ℕ) → i < 8 → is_digit (byte i) ≡ true) where
  abbrev value : ℕ → ℕ
  value i = digit_value (byte i)

  value_small : (i : ℕ) → i < 8 → value i < 16
  value_small i l = digit_value_below (byte i) (is i l)

  pair_small : (i : ℕ) → i < 4 → twos 4 value i < 256
  pair_small = twos_small 4 value 4 value_small

  four_small : (i : ℕ) → i < 2 → twos 8 (twos 4 value) i < 65536
  four_small = twos_small 8 (twos 4 value) 2 pair_small

  lanes_of_digits : digit_lanes (packed 8 byte 8) ≡ packed 8 value 8
  unfolding packed
  lanes_of_digits = omega (arith, values byte 8 is)

  lanes_of_pairs : pair_lanes (packed 8 byte 8) ≡ packed 16 (twos 4 value) 4
  unfolding packed
  lanes_of_pairs = rw lanes_of_digits (merged 4 value 4 value_small)

  lanes_of_fours : four_lanes (packed 8 byte 8) ≡ packed 32 (twos 8 (twos 4 value)) 2
  unfolding packed
  lanes_of_fours = rw lanes_of_pairs (merged 8 (twos 4 value) 2 pair_small)

  lane_of_word : word_lane (packed 8 byte 8) ≡ packed 64 (twos 16 (twos 8 (twos 4 value))) 1
  unfolding packed
  lane_of_word = rw lanes_of_fours (merged 16 (twos 8 (twos 4 value)) 1 four_small)

  eight_digits : word_lane (packed 8 byte 8) ≡ packed 4 value 8
  unfolding packed
  eight_digits = omega (arith, lane_of_word)

number_packed : (b : List ℕ) (n : ℕ) → n ≤ length b → number_of 0 (take n b) ≡ packed 4 (λ i. digit_value (get_or b i 0)) n
unfolding packed number_of
number_packed b zero h = refl
number_packed b (suc n) h =
    rw (take-suc b n 0 h) (omega (arith, number_of_snoc 0 (take n b) (get_or b n 0), number_packed b n (omega arith)))

-- eight bytes, the first highest, are lanes of eight bits
lanes_of_bytes : (byte : ℕ → ℕ)
    → from_be_bytes w64 (byte 0 ∷ byte 1 ∷ byte 2 ∷ byte 3 ∷ byte 4 ∷ byte 5 ∷ byte 6 ∷ byte 7 ∷ []) ≡ packed 8 byte 8
unfolding packed
lanes_of_bytes byte = omega arith

module _ (b : List ℕ) where
  abbrev byte_of : ℕ → ℕ
  byte_of i = get_or b i 0

  pub word_of_bytes : HasDigits b 8
      → word_lane (from_be_bytes w64 (byte_of 0 ∷ byte_of 1 ∷ byte_of 2 ∷ byte_of 3 ∷ byte_of 4 ∷ byte_of 5 ∷ byte_of 6 ∷ byte_of 7 ∷ []))
      ≡ number_of 0 (take 8 b)
  word_of_bytes d = rw (lanes_of_bytes byte_of) (eight_digits byte_of d.digits ∙ sym (number_packed b 8 d.within))
