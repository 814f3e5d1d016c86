-- One token scanned at a place of the text, where the machine on numbers stands at some shape: which kind of token, or where it is stuck.
use Rattle.std.specs.Prelude.{◌≡◌, ℕ, suc, ◌+◌, ◌*◌, ◌-◌, ◌<◌, ◌≤◌, Bool, true, false, ◌||◌, List, [], ◌∷◌, eqb, ltb, length, get_or, drop}
use Rattle.std.proofs.Math.Option.{none, some}
use Rattle.grammar.specs.Token.{Token, number, variable, sign, relation, truth, mark, skip}
use Rattle.grammar.specs.Spelling.{spell, is_digit}
use Rattle.grammar.specs.machine.Reader.{State, step}
use Rattle.grammar.specs.machine.Bytes.{fixed, Pending, spot, longer, read_from, taken}
use Rattle.grammar.proofs.bytes.TokenLaw.{Same}
use Rattle.tokens.specs.Tables.{spellings}
use Rattle.tokens.specs.Shape.{Shape, may, shape_of}
use Rattle.tokens.specs.Stand.{kind_of}

-- ---- digits: a run of them from `at` up to `end` that is the number n so far

pub data Digits (most : ℕ) (bs : List ℕ) (at : ℕ) : ℕ → ℕ → Type 0 where
  first : at < length bs → is_digit (get_or bs at 0) ≡ true → Digits most bs at (at + 1) (get_or bs at 0 - 48)
  next : {end n : ℕ} → Digits most bs at end n → end < length bs → longer most n (get_or bs end 0) ≡ true
      → Digits most bs at (end + 1) (10 * n + (get_or bs end 0 - 48))

-- and no digit more goes on with it
pub record DigitsRead (most : ℕ) (bs : List ℕ) (at end n : ℕ) : Type 0 where
  pub run : Digits most bs at end n
  pub within : (at < end) × (end ≤ length bs)
  pub stops : end < length bs → longer most n (get_or bs end 0) ≡ false

-- ---- fixed tokens

unfoldable pub spelled_at : ℕ → List ℕ
spelled_at k = spell (get_or fixed k (mark skip))

-- a number of the table of spellings
unfoldable pub spell_number : ℕ → ℕ → ℕ
spell_number k j = get_or spellings (8 * k + j) 0

-- how long both are the same
unfoldable pub common_by : Bool → ℕ → ℕ
common_by true n = suc n
common_by false n = 0

unfoldable pub common : List ℕ → List ℕ → ℕ
common [] q = 0
common (a ∷ p) [] = 0
common (a ∷ p) (b ∷ q) = common_by (eqb a b) (common p q)

-- of the first fixed tokens, `best` is how far one that may follow is there at most, and `found` is one that is there whole and as far, or 27
pub record Best (sh : Shape) (bs : List ℕ) (upto best found : ℕ) : Type 0 where
  pub upper : (k : ℕ) → k < upto → may sh k ≡ true → common (spelled_at k) bs ≤ best
  pub reached : 0 < best → (k : ℕ) × (k < 27) × (may sh k ≡ true) × (common (spelled_at k) bs ≡ best)
  pub whole : found < 27
      → (may sh found ≡ true) × (common (spelled_at found) bs ≡ best) × (length (spelled_at found) ≡ best) × (0 < best)
  pub broken : 27 ≤ found → (k : ℕ) → k < upto → may sh k ≡ true → common (spelled_at k) bs ≡ best → 0 < best
      → length (spelled_at k) ≡ best → ⊥

unfoldable pub is_word_kind : ℕ → Bool
is_word_kind k = ltb k 10 || ltb 24 k

-- ---- what is scanned

unfoldable pub carried : Token → ℕ
carried (number k) = k
carried (variable x) = x
carried (sign o) = 0
carried (relation o) = 0
carried (truth v) = 0
carried (mark m) = 0

-- a token: it is allowed, and taken by any state of this shape that goes on with it, reading and place unchanged
pub record TokenAt (text : List ℕ) (at : ℕ) (sh : Shape) (t : Token) (end : ℕ) : Type 0 where
  pub allowed : may sh (kind_of t) ≡ true
  pub after : at < end
  pub within : end ≤ length text
  pub same : {limit : ℕ} (S R : State limit) → shape_of S ≡ sh → step S t ≡ some R
      → Same (spot S Pending.nothing) (drop at text) (spot R Pending.nothing) (drop end text)

-- nothing leads on: what is left has no reading, and is taken up to `end`
pub record StuckAt (text : List ℕ) (at : ℕ) (sh : Shape) (end : ℕ) : Type 0 where
  pub within : end ≤ length text
  pub unread : {limit : ℕ} (S : State limit) → shape_of S ≡ sh → read_from (spot S Pending.nothing) (drop at text) ≡ none
  pub place : {limit : ℕ} (S : State limit) → shape_of S ≡ sh → taken (spot S Pending.nothing) (drop at text) + at ≡ end

-- a token of this kind that carries this value
pub record Scanned (text : List ℕ) (at : ℕ) (sh : Shape) (kind value end : ℕ) : Type 0 where
  pub token : (t : Token) × (kind_of t ≡ kind) × (carried t ≡ value) × TokenAt text at sh t end
