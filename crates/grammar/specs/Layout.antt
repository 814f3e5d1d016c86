-- Text, in bytes, in the grammar of A4, and refusal 17's place.
use Rattle.std.specs.Prelude.{◌≡◌, ℕ, ◌≤◌, true, false, List, [], ◌∷◌, ◌++◌, length, take}
use Rattle.grammar.specs.Rule.{Rule}
use Rattle.grammar.specs.Token.{Token}
use Rattle.grammar.specs.Grammar.{Reads}
use Rattle.grammar.specs.Spelling.{spell, in_range, begins_in_word, is_word, is_blank}

-- "must part two words": what follows a word does not go on as one
abbrev pub Parted : Token → List ℕ → Type 0
Parted t bs = is_word t ≡ true → begins_in_word bs ≡ false

-- the bytes bs are the tokens ts: "Blanks and newlines may stand around tokens"
pub data Laid : List ℕ → List Token → Type 0 where
  done : Laid [] []
  blank : {b : ℕ} {bs : List ℕ} {ts : List Token} → is_blank b ≡ true → Laid bs ts → Laid (b ∷ bs) ts
  token : {t : Token} {bs : List ℕ} {ts : List Token}
      → in_range t ≡ true → Parted t bs → Laid bs ts → Laid (spell t ++ bs) (t ∷ ts)

-- it "is in this grammar", and reads as r
abbrev pub InGrammar : List ℕ → Rule → Type 0
InGrammar text r = (ts : List Token) × Laid text ts × Reads ts r

-- it "begins a text of the grammar"
abbrev pub Begins : List ℕ → Type 0
Begins text = (more : List ℕ) × (r : Rule) × InGrammar (text ++ more) r

-- "place the length of its longest beginning that also begins a text of the grammar"
pub record Longest (text : List ℕ) (k : ℕ) : Type 0 where
  pub within : k ≤ length text
  pub begins : Begins (take k text)
  pub longest : (j : ℕ) → j ≤ length text → Begins (take j text) → j ≤ k
