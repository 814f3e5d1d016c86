-- What one turn of a loop of reading adds: a byte to a line that is looked at, a line to those without fault, a word or a
-- line to those that are stored.
use mathlib.Core.Path.{◌≡◌, refl, sym, ap, ◌∙◌}
use mathlib.Core.Bool.{Bool, true, false, cond, ◌&&◌, and-false}
use mathlib.Core.List.{List, [], ◌∷◌, ◌++◌}
use Prim.Native.Nat.{ℕ, zero, suc, ◌+◌, ◌-◌, ◌*◌, ◌<◌, ◌≤◌, min}
use native.Mathlib.Nat.{mul-le-mul_left, lt_of_mul-lt-mul_left, mul-suc, mul-zero, zero-add}
use native.Mathlib.Numerals.{add-one}
use native.Mathlib.Omega.{arith}
use borrow.Author.Tests.{lt-ltb, le-ltb, le-leb, lt-leb}
use lib.Dec.{eqb, ltb, leb}
use lib.ListN.{length, get_or, take, drop, set, get_or-append, length-append, length-drop}
use lib.Seq.{sets, length-sets, get_or-drop, get_or-take, length-take-le, drop-append_seam}
use Rattle.std.proofs.lemmas.List.{drop-drop, drop-append-le, take-append-le}
use Rattle.rules.specs.Lists.{joined, every}
use Rattle.rules.specs.Refusal.{fine}
use Rattle.rules.specs.Text.{is_digit, number_of, byte_at, line_length, lines, line_fault, words_of_text}
use Rattle.rules.proofs.ListLaws.{and_assoc, length_row, length_joined, joined_same, sets_joined, sets_part, one_more}
use Rattle.rules.proofs.ListLaws.{some_refuse_lowest, none_refuse_lowest}
use Rattle.rules.proofs.TextLaws.{accepted_text, lines_begun, begun_lines}
use Rattle.reading.specs.inside.Parts.{is_line, IsGood, FirstFault, HasDigits, words_of_line, words_of_lines, CanRead}

pub every_more : (test : ℕ → Bool) (i : ℕ) (a b : Bool) → a ≡ every test i → b ≡ test i → (a && b) ≡ every test (i + 1)
unfolding every
every_more test i a b e f = rw (add-one i, e, f)

every_same : (f g : ℕ → Bool) (n : ℕ) → ((i : ℕ) → i < n → f i ≡ g i) → every f n ≡ every g n
unfolding every
every_same f g zero h = refl
every_same f g (suc n) h = rw (every_same f g n (λ i l. h i (omega arith)), h n (omega arith))

-- ---- a line of a text

-- line k as the text has it
abbrev line_ok : ℕ → List ℕ → ℕ → Bool
line_ok w b k = every (λ i. is_digit (byte_at w b k i)) (8 * w) && eqb (byte_at w b k (8 * w)) 10

-- a turn of a loop takes this line off what is left
pub record Turn (w : ℕ) (left line rest : List ℕ) : Type 0 where
  pub parts : left ≡ line ++ rest
  pub cut : length line ≡ min (line_length w) (length left)
  pub some : 0 < length left

pub turn_of : (w size : ℕ) (left line rest : List ℕ) → size ≡ line_length w
    → (left ≡ line ++ rest) × (length line ≡ min size (length left)) × (0 < length left) → Turn w left line rest
turn_of w size left line rest e steps = record { parts = steps.0; cut = rw e at steps.1; some = steps.2 }

pub whole_turn : (w size : ℕ) (left line rest : List ℕ) → size ≡ line_length w → left ≡ line ++ rest → length line ≡ size → Turn w left line rest
whole_turn w size left line rest e parts whole =
    let long = ap length parts ∙ length-append line rest in
    record { parts = parts; cut = omega arith; some = omega arith }

-- from line k on the text is this line and what follows it
module _ (w : ℕ) (b : List ℕ) (k : ℕ) (line rest : List ℕ) (is : drop (line_length w * k) b ≡ line ++ rest) where
  byte_in : (i : ℕ) → i < length line → get_or line i 0 ≡ byte_at w b k i
  byte_in i h = sym (get_or-append line rest 0 i h) ∙ ap (λ (l : List ℕ). get_or l i 0) (sym is) ∙ get_or-drop (line_length w * k) b i 0

  line_in : 8 * w < length line → is_line line (8 * w) ≡ line_ok w b k
  unfolding is_line
  line_in h =
      let digits = every_same (λ i. is_digit (get_or line i 0)) (λ i. is_digit (byte_at w b k i)) (8 * w)
      (λ i l. ap is_digit (byte_in i (omega arith))) in
      rw (digits, byte_in (8 * w) h)

  what_follows : length line ≡ line_length w → drop (line_length w * (k + 1)) b ≡ rest
  what_follows h =
      let at : line_length w * (k + 1) ≡ line_length w * k + length line = omega arith in
      rw (at, ← drop-drop (length line) (line_length w * k) b, is) (drop-append_seam line rest)

  words_in : 8 * w ≤ length line → words_of_line line w ≡ words_of_line (drop (line_length w * k) b) w
  unfolding words_of_line
  words_in h = joined_same _ _ w (λ i l. ap (λ (x : List ℕ). number_of 0 x ∷ []) (rw (is, drop-append-le (8 * i) line rest (omega arith))
      (sym (take-append-le 8 (drop (8 * i) line) rest (rw length-drop (omega arith))))))

-- ---- lines looked at

-- the search so far: lines before k have no fault, and line k begins what is left
pub record Sought (w : ℕ) (b : List ℕ) (k : ℕ) (left : List ℕ) : Type 0 where
  pub allowed : k ≤ 1024
  pub begins : drop (line_length w * k) b ≡ left
  pub fine_before : (j : ℕ) → j < k → line_fault w b j ≡ fine

-- the fault of a line, by the tests in the order in which they are made
line_fault_is : (w : ℕ) (b : List ℕ) (k : ℕ) → line_fault w b k
    ≡ cond (ltb k 1024 && leb (line_length w * k + line_length w) (length b) && line_ok w b k) fine 14
unfolding line_fault
line_fault_is w b k =
    let begun = ltb k 1024 && leb (line_length w * k + line_length w) (length b) in
    ap (λ (t : Bool). cond t fine 14) (and_assoc begun _ _)

module _ (w : ℕ) (b : List ℕ) (k : ℕ) where
  fault_late : 1024 ≤ k → line_fault w b k ≡ 14
  fault_late h = line_fault_is w b k ∙ rw (le-ltb k 1024 h)

  fault_short : length b < line_length w * k + line_length w → line_fault w b k ≡ 14
  fault_short h = line_fault_is w b k ∙ rw (lt-leb (line_length w * k + line_length w) (length b) h, and-false)

  fault_bytes : line_ok w b k ≡ false → line_fault w b k ≡ 14
  fault_bytes e = line_fault_is w b k ∙ rw (e, and-false)

  no_fault : k < 1024 → line_length w * k + line_length w ≤ length b → line_ok w b k ≡ true
      → line_fault w b k ≡ fine
  no_fault l h e = line_fault_is w b k ∙ rw (lt-ltb k 1024 l, le-leb (line_length w * k + line_length w) (length b) h, e)

  module _ (so : Sought w b k []) where
    -- a text that ends before line k
    pub all_fine : IsGood w b
    all_fine =
        let none-left : length b ≤ line_length w * k = omega (arith, length-drop (line_length w * k) b, ap length so.begins) in
        none_refuse_lowest (line_fault w b) (lines w b)
        (λ j h. so.fine_before j (before j none-left (lines_begun w b j h)))
      where
        before : (j : ℕ) → length b ≤ line_length w * k → line_length w * j < length b → j < k
        before j l h = lt_of_mul-lt-mul_left (line_length w) (omega arith)

  module _ (left line rest : List ℕ) (so : Sought w b k left) (turn : Turn w left line rest) where
    begins_line : drop (line_length w * k) b ≡ line ++ rest
    begins_line = so.begins ∙ turn.parts

    size : length b ≡ line_length w * k + length left
    size = omega (arith, length-drop (line_length w * k) b, ap length so.begins, turn.some)

    first : line_fault w b k ≡ 14 → FirstFault w b k
    first e =
        let begun = begun_lines w b k (omega (arith, size, turn.some)) in
        let found = some_refuse_lowest (line_fault w b) (lines w b) k begun (λ f. let z = sym e ∙ f in omega arith) so.fine_before in
        record { allowed = so.allowed; lowest = found ∙ rw e }

    pub late : 1024 ≤ k → FirstFault w b k
    late l = first (fault_late l)

    pub short : length line ≤ 8 * w → FirstFault w b k
    short l = first (fault_short (omega (arith, size, turn.cut)))

    pub not_line : 8 * w < length line → is_line line (8 * w) ≡ false → FirstFault w b k
    not_line h e = first (fault_bytes (sym (line_in w b k line rest begins_line h) ∙ e))

    pub one_fine : k < 1024 → 8 * w < length line → is_line line (8 * w) ≡ true → Sought w b (k + 1) rest
    one_fine l h e =
        let good = no_fault l (omega (arith, size, turn.cut)) (sym (line_in w b k line rest begins_line h) ∙ e) in
        record {
          allowed = omega arith;
          begins = what_follows w b k line rest begins_line (omega (arith, turn.cut));
          fine_before = rw (add-one k) (one_more {P = λ j. line_fault w b j ≡ fine} k so.fine_before good);
        }

-- ---- lines read

-- the digits of word i are those of its part of the line
pub digits_of_word : (line part : List ℕ) (n i : ℕ) → HasDigits line (8 * n) → i < n → part ≡ take 8 (drop (8 * i) line) → HasDigits part 8
digits_of_word line part n i d l e =
    rw e (record {
      within = omega (arith, length-take-le 8 (drop (8 * i) line) (rw length-drop (omega (arith, d.within))));
      digits = λ j h. rw (get_or-take 8 (drop (8 * i) line) j 0 h, get_or-drop (8 * i) line j 0) (d.digits (8 * i + j) (omega arith));
    })

pub length_words_of_line : (line : List ℕ) (n : ℕ) → length (words_of_line line n) ≡ n
unfolding words_of_line
length_words_of_line line n = length_row (λ i. number_of 0 (take 8 (drop (8 * i) line))) n

-- one word more, after the first n
pub word_stored : (line l r : List ℕ) (n v : ℕ) → l ≡ sets r 0 (words_of_line line n) → v ≡ number_of 0 (take 8 (drop (8 * n) line))
    → set l n v ≡ sets r 0 (words_of_line line (n + 1))
unfolding words_of_line
word_stored line l r n v e f =
    let next = sets_joined (λ i. number_of 0 (take 8 (drop (8 * i) line)) ∷ []) r 0 n n (length_words_of_line line n) in
    rw (e, f) (simp zero-add at next)

-- the words of the lines before k are stored, and line k begins what is left
pub record ReadSoFar (w : ℕ) (b r l : List ℕ) (k : ℕ) (left : List ℕ) : Type 0 where
  pub at_most : k ≤ lines w b
  pub begins : drop (line_length w * k) b ≡ left
  pub same_length : length l ≡ length r
  pub stored : l ≡ sets r 0 (words_of_lines w b k)

-- what reading line k needs
pub record CanReadLine (w : ℕ) (line : List ℕ) (room k : ℕ) : Type 0 where
  pub whole : length line ≡ line_length w
  pub enough : w * k + w ≤ room
  pub digits : HasDigits line (8 * w)

module _ (w : ℕ) (b : List ℕ) (k : ℕ) (r l left line rest : List ℕ) (can : CanRead w b (length r)) (so : ReadSoFar w b r l k left)
    (turn : Turn w left line rest) where
  line_begun : k < lines w b
  line_begun = begun_lines w b k (omega (arith, length-drop (line_length w * k) b, ap length so.begins, turn.some))

  pub can_read_line : CanReadLine w line (length r) k
  can_read_line =
      let good = (accepted_text w b can.accepted).line k line_begun in
      let begins = so.begins ∙ turn.parts in
      let whole : length line ≡ line_length w =
      omega (arith, good.whole, turn.cut, length-drop (line_length w * k) b, ap length so.begins) in
      record {
        whole = whole;
        enough = omega (arith, can.enough, mul-le-mul_left w line_begun, mul-suc w k);
        digits = record {
          within = omega arith;
          digits = λ i l. rw (byte_in w b k line rest begins i (omega arith)) (good.digits i l);
        };
      }

  -- one line more, after those before k
  pub line_read : (l' part : List ℕ) → part ≡ words_of_line line w → l' ≡ take (w * k) l ++ (part ++ drop w (drop (w * k) l))
      → ReadSoFar w b r l' (k + 1) rest
  unfolding words_of_lines
  line_read l' part e e' =
      let now = can_read_line in
      let begins = so.begins ∙ turn.parts in
      let as-long : length part ≡ w = rw e (length_words_of_line line w) in
      let put = e' ∙ sets_part part l (w * k) w as-long (omega (arith, now.enough, so.same_length)) in
      let words : part ≡ words_of_line (drop (line_length w * k) b) w =
      e ∙ words_in w b k line rest begins (omega (arith, now.whole)) in
      let before = length_joined (λ k. words_of_line (drop (line_length w * k) b) w) w k (λ j h. length_words_of_line _ w) in
      let next = sets_joined (λ k. words_of_line (drop (line_length w * k) b) w) r 0 (w * k) k before in
      record {
        at_most = omega (arith, line_begun);
        begins = what_follows w b k line rest begins now.whole;
        same_length = rw put (length-sets l (w * k) part) ∙ so.same_length;
        stored = put ∙ rw (so.stored, words) (simp zero-add at next);
      }

-- the part of a room that is lent for line k
pub part_for : (w k : ℕ) (l : List ℕ) → w * k + w ≤ length l → length (take (w * k + w - w * k) (drop (w * k) l)) ≡ w
part_for w k l h =
    let part : w * k + w - w * k ≡ w = omega arith in
    rw part (length-take-le w (drop (w * k) l) (rw length-drop (omega arith)))

-- where nothing is passed, none is read
pub none_read : (w : ℕ) (b r left : List ℕ) (k : ℕ) → k ≡ 0 → left ≡ b → ReadSoFar w b r r k left
unfolding words_of_lines joined
none_read w b r left k e f =
    rw (e, f) (record { at_most = omega arith; begins = rw (mul-zero (line_length w)); same_length = refl; stored = refl })

-- where less than a line is left, all is read
pub all_read : (w : ℕ) (b r l left : List ℕ) (k : ℕ) → CanRead w b (length r) → ReadSoFar w b r l k left → length left < line_length w
    → l ≡ sets r 0 (words_of_text w b)
unfolding words_of_lines words_of_line words_of_text
all_read w b r l left k can so short =
    let none-begun : k < lines w b → ⊥ =
    λ h. omega (arith, ((accepted_text w b can.accepted).line k h).whole, length-drop (line_length w * k) b, ap length so.begins) in
    let all : k ≡ lines w b = omega (arith, so.at_most, none-begun) in
    so.stored ∙ rw all (ap (λ (ws : List ℕ). sets r 0 ws) (joined_same _ _ (lines w b)
    (λ j h. joined_same _ _ w (λ i m. rw (drop-drop (8 * i) (line_length w * j) b)))))
