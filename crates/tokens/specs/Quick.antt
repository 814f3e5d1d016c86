-- The fast path: what the first byte tells of the token at a place, and what is found there.
use Rattle.std.specs.Prelude.{◌≡◌, ℕ, suc, ◌+◌, ◌<◌, ◌≤◌, Bool, true, false, not, List, [], ◌∷◌, eqb, length, get_or, drop}
use Rattle.std.specs.Int.Bits.{bit_and}
use Rattle.grammar.specs.Token.{Token}
use Rattle.grammar.specs.Spelling.{in_word}
use Rattle.tokens.specs.Tables.{classes}
use Rattle.tokens.specs.Shape.{Shape, may}
use Rattle.tokens.specs.Stand.{kind_of}
use Rattle.tokens.specs.Scan.{spelled_at, common, is_word_kind, carried, TokenAt}

-- the class of a byte
unfoldable pub class_of : ℕ → ℕ
class_of b = get_or classes b 29

-- a class of letters and digits
unfoldable pub word_class : ℕ → Bool
word_class c = not (eqb (bit_and c 32) 0)

pub record ClassAt (text : List ℕ) (at class : ℕ) : Type 0 where
  pub inside : at < length text
  pub is : class ≡ class_of (get_or text at 0)

-- ---- bytes

-- these bytes are at a place
pub data Spelled (text : List ℕ) : ℕ → List ℕ → Type 0 where
  nothing : {at : ℕ} → at ≤ length text → Spelled text at []
  byte : {at b : ℕ} {bs : List ℕ} → at < length text → get_or text at 0 ≡ b → Spelled text (at + 1) bs → Spelled text at (b ∷ bs)

-- what a test for them tells
pub record Are (text : List ℕ) (at : ℕ) (bs : List ℕ) (r : Bool) : Type 0 where
  pub there : r ≡ true → Spelled text at bs

pub record Next (text : List ℕ) (at b : ℕ) (r : Bool) : Type 0 where
  pub there : r ≡ true → Spelled text at (b ∷ [])
  pub other : r ≡ false → at < length text → get_or text at 0 ≡ b → ⊥

-- ---- tokens

-- the fixed token k is there whole, and `<` is not where `<=` is
pub record Lies (text : List ℕ) (at k end : ℕ) : Type 0 where
  pub token : k < 27
  pub whole : common (spelled_at k) (drop at text) ≡ length (spelled_at k)
  pub ends : end ≡ at + length (spelled_at k)
  pub longest : k ≡ 24 → common (spelled_at 23) (drop at text) < 2

-- the fixed token k is there if these bytes come after the first
pub record Begun (text : List ℕ) (at k : ℕ) (bs : List ℕ) : Type 0 where
  pub inside : at < length text
  pub lies : Spelled text (at + 1) bs → Lies text at k (at + suc (length bs))

-- a token that is there whole: wherever it may follow it is taken, if no letter or digit goes on with a word
pub record Held (text : List ℕ) (at kind value end : ℕ) : Type 0 where
  pub token : (t : Token) × (kind_of t ≡ kind) × (carried t ≡ value)
      × ((sh : Shape) → may sh kind ≡ true → (is_word_kind kind ≡ true → end < length text → in_word (get_or text end 0) ≡ false)
      → TokenAt text at sh t end)

-- and none does
pub record Quick (text : List ℕ) (at kind value end : ℕ) : Type 0 where
  pub token :
      (t : Token) × (kind_of t ≡ kind) × (carried t ≡ value) × ((sh : Shape) → may sh kind ≡ true → TokenAt text at sh t end)
