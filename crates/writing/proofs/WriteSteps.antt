-- What one turn of a loop of writing adds: two digits, a word or a line to those that are stored.
use mathlib.Core.Path.{◌≡◌, refl, sym, ap, ◌∙◌}
use mathlib.Core.List.{List, [], ◌∷◌, ◌++◌}
use Prim.Native.Nat.{ℕ, zero, suc, ◌+◌, ◌-◌, ◌*◌, ◌/◌, ◌%◌, ◌^◌, ◌<◌, ◌≤◌}
use native.Mathlib.Nat.{pow-suc, div-div-eq-div-mul, mul-le-mul_left, le-div_iff_mul-le, mul-suc, mul-zero, zero-add, mul-div-le}
use native.Mathlib.Numerals.{add-one}
use native.Mathlib.Omega.{arith}
use lib.ListN.{length, get_or, take, drop, set, get_or-append, length-append, length-drop}
use lib.Seq.{sets, length-sets, set_comm, length-take-le, drop-append_seam, get_or-drop}
use Rattle.std.specs.Int.{to_le_bytes, w32}
use Rattle.std.proofs.lemmas.List.{drop-drop}
use Rattle.rules.specs.Lists.{joined}
use Rattle.rules.specs.Text.{digit, digits_of, line_length, line_of, text_of}
use Rattle.rules.proofs.ListLaws.{length_joined, joined_same, sets_joined, sets_part, set_before_sets}
use Rattle.rules.proofs.DigitLaws.{length_digits_of}
use Rattle.writing.specs.inside.Parts.{pair_of, digits_of_words, line_of_words, lines_of, CanWrite}

-- ---- a word

-- byte i of a word, from the lowest on
byte_is : (v i : ℕ) → i < 4 → get_or (to_le_bytes w32 v) i 0 ≡ v / 256 ^ i % 256
byte_is v zero h = omega arith
byte_is v (suc zero) h = refl
byte_is v (suc (suc zero)) h = refl
byte_is v (suc (suc (suc zero))) h = refl
byte_is v (suc (suc (suc (suc i)))) h = absurd (omega arith)

-- the last of n + 1 digits, before the others
digit_stored : (l : List ℕ) (n v : ℕ) → sets (set l n (digit (v % 16))) 0 (digits_of n (v / 16)) ≡ sets l 0 (digits_of (n + 1) v)
unfolding digits_of
digit_stored l n v =
    rw (add-one n)
    (ap (λ (m : ℕ). sets (set l m (digit (v % 16))) 0 (digits_of n (v / 16))) (sym (zero-add _ ∙ length_digits_of n (v / 16)))
    ∙ set_before_sets (digits_of n (v / 16)) l 0 (digit (v % 16)))

-- the last two of n + 2 digits, before the others
two_stored : (l : List ℕ) (n v : ℕ)
    → sets (set (set l (n + 1) (digit (v % 256 % 16))) n (digit (v % 256 / 16))) 0 (digits_of n (v / 256)) ≡ sets l 0 (digits_of (n + 2) v)
two_stored l n v =
    let low : v % 256 % 16 ≡ v % 16 = omega arith in
    let rest : v / 256 ≡ v / 16 / 16 = omega arith in
    let high : v % 256 / 16 ≡ v / 16 % 16 = omega arith in
    let count : n + 2 ≡ n + 1 + 1 = omega arith in
    rw (low, high, rest, count) (digit_stored (set l (n + 1) (digit (v % 16))) n (v / 16) ∙ digit_stored l (n + 1) v)

-- the digits of byte i, before those of the bytes above
pub pair_stored : (l p : List ℕ) (v i : ℕ) → i < 4 → p ≡ pair_of (get_or (to_le_bytes w32 v) i 0)
    → sets (set (set l (6 - 2 * i) (get_or p 0 0)) (7 - 2 * i) (get_or p 1 0)) 0 (digits_of (8 - 2 * (i + 1)) (v / 256 ^ (i + 1)))
    ≡ sets l 0 (digits_of (8 - 2 * i) (v / 256 ^ i))
unfolding pair_of
pair_stored l p v i h e =
    let at : 7 - 2 * i ≡ 6 - 2 * i + 1 = omega arith in
    let more : 8 - 2 * i ≡ 6 - 2 * i + 2 = omega arith in
    let less : 8 - 2 * (i + 1) ≡ 6 - 2 * i = omega arith in
    let rest : v / 256 ^ (i + 1) ≡ v / 256 ^ i / 256 = rw (add-one i, pow-suc 256 i) (sym (div-div-eq-div-mul v (256 ^ i) 256)) in
    rw (e, byte_is v i h, at, more, less, rest)
    (ap (λ (m : List ℕ). sets m 0 (digits_of (6 - 2 * i) (v / 256 ^ i / 256))) (set_comm l (6 - 2 * i) (6 - 2 * i + 1) _ _ (omega arith))
    ∙ two_stored l (6 - 2 * i) (v / 256 ^ i))

-- ---- words

-- the digits of the first n words
abbrev pub digits_before : List ℕ → ℕ → List ℕ
digits_before ws = joined (λ i. digits_of 8 (get_or ws i 0))

length_digits_before : (ws : List ℕ) (n : ℕ) → length (digits_before ws n) ≡ 8 * n
length_digits_before ws n = length_joined (λ i. digits_of 8 (get_or ws i 0)) 8 n (λ i h. length_digits_of 8 _)

-- one word more, after the first n
pub word_stored : (ws l l' r part : List ℕ) (n : ℕ) → l ≡ sets r 0 (digits_before ws n) → part ≡ digits_of 8 (get_or ws n 0)
    → 8 * n + 8 ≤ length l → l' ≡ take (8 * n) l ++ (part ++ drop 8 (drop (8 * n) l))
    → (length l' ≡ length l) × (l' ≡ sets r 0 (digits_before ws (n + 1)))
word_stored ws l l' r part n e f h put =
    let as-long : length part ≡ 8 = rw f (length_digits_of 8 _) in
    let stored = put ∙ sets_part part l (8 * n) 8 as-long h in
    let next = sets_joined (λ i. digits_of 8 (get_or ws i 0)) r 0 (8 * n) n (length_digits_before ws n) in
    (rw stored (length-sets l (8 * n) part), stored ∙ rw (e, f) (simp zero-add at next))

pub length_digits_of_words : (ws : List ℕ) → length (digits_of_words ws) ≡ 8 * length ws
unfolding digits_of_words
length_digits_of_words ws = length_digits_before ws (length ws)

length_line_of : (w : ℕ) (ws : List ℕ) (k : ℕ) → length (line_of w ws k) ≡ line_length w
unfolding line_of
length_line_of w ws k =
    let digits = length_joined (λ i. digits_of 8 (get_or ws (w * k + i) 0)) 8 w (λ i h. length_digits_of 8 _) in
    length-append (joined (λ i. digits_of 8 (get_or ws (w * k + i) 0)) w) (10 ∷ []) ∙ omega (arith, digits)

-- ---- lines

-- a turn of the loop takes this frame off what is left
pub record Turn (w : ℕ) (left frame rest : List ℕ) : Type 0 where
  pub parts : left ≡ frame ++ rest
  pub whole : length frame ≡ w

pub turn_of : (w size : ℕ) (left frame rest : List ℕ) → size ≡ w → (left ≡ frame ++ rest) × (length frame ≡ size) → Turn w left frame rest
turn_of w size left frame rest e steps = record { parts = steps.0; whole = steps.1 ∙ e }

-- the lines of the frames before k are stored, and frame k begins what is left
pub record WrittenSoFar (w : ℕ) (ws r l : List ℕ) (k : ℕ) (left : List ℕ) : Type 0 where
  pub at_most : k ≤ length ws / w
  pub begins : drop (w * k) ws ≡ left
  pub same_length : length l ≡ length r
  pub stored : l ≡ sets r 0 (lines_of w ws k)

module _ (w : ℕ) (ws : List ℕ) (k : ℕ) (r l left frame rest : List ℕ) (can : CanWrite w ws (length r)) (so : WrittenSoFar w ws r l k left)
    (turn : Turn w left frame rest) where
  frame_whole : w * k + w ≤ length ws
  frame_whole =
      omega (arith, length-drop (w * k) ws, ap length so.begins, ap length turn.parts, length-append frame rest, turn.whole, can.some)

  frame_begun : k < length ws / w
  frame_begun = (le-div_iff_mul-le {k = w} {x = suc k} {y = length ws} can.some).1 (omega (arith, frame_whole))

  -- what writing line k needs
  pub line_fits : line_length w * k + line_length w ≤ length l
  line_fits =
      omega (arith, so.same_length, can.enough, mul-le-mul_left (line_length w) frame_begun, mul-suc (line_length w) k)

  line_is : line_of_words frame ≡ line_of w ws k
  unfolding line_of digits_of_words
  line_is =
      let begins = so.begins ∙ turn.parts in
      rw turn.whole (ap (λ (ds : List ℕ). ds ++ (10 ∷ [])) (joined_same _ _ w (λ i h. ap (digits_of 8) (word_in begins i h))))
    where
      word_in : drop (w * k) ws ≡ frame ++ rest → (i : ℕ) → i < w → get_or frame i 0 ≡ get_or ws (w * k + i) 0
      word_in begins i h =
          sym (get_or-append frame rest 0 i (omega (arith, turn.whole))) ∙ ap (λ (l : List ℕ). get_or l i 0) (sym begins)
          ∙ get_or-drop (w * k) ws i 0

  -- one line more, after those before k
  pub line_written : (l' part : List ℕ) → part ≡ line_of_words frame
      → l' ≡ take (line_length w * k) l ++ (part ++ drop (line_length w) (drop (line_length w * k) l)) → WrittenSoFar w ws r l' (k + 1) rest
  unfolding lines_of
  line_written l' part e put =
      let is = e ∙ line_is in
      let as-long : length part ≡ line_length w = rw is (length_line_of w ws k) in
      let stored = put ∙ sets_part part l (line_length w * k) (line_length w) as-long line_fits in
      let before = length_joined (line_of w ws) (line_length w) k (λ j h. length_line_of w ws j) in
      let next = sets_joined (line_of w ws) r 0 (line_length w * k) k before in
      let after : w * (k + 1) ≡ w * k + length frame = omega (arith, turn.whole) in
      record {
        at_most = omega (arith, frame_begun);
        begins = rw (after, ← drop-drop (length frame) (w * k) ws, so.begins, turn.parts) (drop-append_seam frame rest);
        same_length = rw stored (length-sets l (line_length w * k) part) ∙ so.same_length;
        stored = stored ∙ rw (so.stored, is) (simp zero-add at next);
      }

-- the part of a room that is lent for line k
pub part_for : (long k : ℕ) (l : List ℕ) → long * k + long ≤ length l → length (take (long * k + long - long * k) (drop (long * k) l)) ≡ long
part_for long k l h =
    let part : long * k + long - long * k ≡ long = omega arith in
    rw part (length-take-le long (drop (long * k) l) (rw length-drop (omega arith)))

-- where nothing is passed, none is written
pub none_written : (w : ℕ) (ws r left : List ℕ) (k : ℕ) → k ≡ 0 → left ≡ ws → WrittenSoFar w ws r r k left
unfolding lines_of joined
none_written w ws r left k e f =
    rw (e, f) (record { at_most = omega arith; begins = rw (mul-zero w); same_length = refl; stored = refl })

-- where less than a frame is left, all is written
pub all_written : (w : ℕ) (ws r l left : List ℕ) (k : ℕ) → CanWrite w ws (length r) → WrittenSoFar w ws r l k left → length left < w
    → l ≡ sets r 0 (text_of w ws)
unfolding lines_of text_of
all_written w ws r l left k can so short =
    let none-begun : k < length ws / w → ⊥ =
    λ h. omega (arith, mul-le-mul_left w h, mul-suc w k, mul-div-le (length ws) w, length-drop (w * k) ws, ap length so.begins) in
    let all : k ≡ length ws / w = omega (arith, so.at_most, none-begun) in
    rw all at so.stored
