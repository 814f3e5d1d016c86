-- The listing program (01, "Text"): the bytes it writes, for all that it may read. Its own rooms hold the words
-- of 1,024 nodes and of 1,024 instructions.
use Rattle.std.specs.Prelude.{◌≡◌, ℕ, ◌*◌, ◌≤◌, List, [], ◌∷◌, length}
use Rattle.std.proofs.Math.Option.{Option, none, some}
use Rattle.std.proofs.lemmas.List.Edits.{sets}
use Rattle.rules.specs.Compilation.{compile}
use Rattle.rules.specs.CodeWords.{width, words_of}
use Rattle.rules.specs.Table.{program}
use Rattle.rules.specs.Text.{text_of, words_of_text, read_refusal}
use Rattle.rules.specs.Refusal.{number_of}
use Rattle.rules.specs.declared.Refusal.{Refusal}
use Rattle.compiler.specs.Compiling.{compile_refusal}

-- "On a refusal it writes one line only: number and place, eight such digits each, no space between, then a newline."
unfoldable pub refusal_line : Refusal → List ℕ
refusal_line r = text_of 2 (number_of r.reason ∷ r.place ∷ [])

-- the line of a refusal where there is one, else this text
unfoldable pub line_or : Option Refusal → List ℕ → List ℕ
line_or (some r) text = refusal_line r
line_or none text = text

-- "compiles at label 1 and writes the code's text"
unfoldable pub listing_of : List ℕ → List ℕ
listing_of t = line_or (compile_refusal t 1 (width * 1024)) (text_of width (words_of (compile (program t) 1)))

-- "reads table text from standard input": without a text there is no table, so reading is refused first
unfoldable pub listing : List ℕ → List ℕ
listing b = line_or (read_refusal 4 b 4096) (listing_of (words_of_text 4 b))

-- these words are whole frames, no more than a table has
pub record Frames (words : List ℕ) : Type 0 where
  pub frames : ℕ
  pub whole : length words ≡ 4 * frames
  pub few : frames ≤ 1024

-- this text now stands at the front of the room, which is else as it was; n is its length
pub record Listed (text room after : List ℕ) (n : ℕ) : Type 0 where
  pub count : n ≡ length text
  pub left : after ≡ sets room 0 text
  pub within : n ≤ length after
