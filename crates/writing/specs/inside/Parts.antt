-- What the parts of writing need and give.
use Rattle.std.specs.Prelude.{ℕ, ◌*◌, ◌/◌, ◌%◌, ◌<◌, ◌≤◌, List, [], ◌∷◌, ◌++◌, length, get_or}
use Rattle.rules.specs.Lists.{joined}
use Rattle.rules.specs.Text.{digit, digits_of, line_length, line_of}

-- the two digits of a byte, and those of each byte
unfoldable pub pair_of : ℕ → List ℕ
pair_of b = digit (b / 16) ∷ digit (b % 16) ∷ []

unfoldable pub pair_table : List ℕ
pair_table = joined (λ b. digit (b / 16) ∷ digit (b % 16) ∷ []) 256

-- the digits of words, and the line of them
unfoldable pub digits_of_words : List ℕ → List ℕ
digits_of_words ws = joined (λ i. digits_of 8 (get_or ws i 0)) (length ws)

abbrev pub line_of_words : List ℕ → List ℕ
line_of_words ws = digits_of_words ws ++ (10 ∷ [])

-- the first n lines
unfoldable pub lines_of : ℕ → List ℕ → ℕ → List ℕ
lines_of w ws n = joined (line_of w ws) n

-- frames of w words, and room for their bytes
pub record CanWrite (w : ℕ) (ws : List ℕ) (room : ℕ) : Type 0 where
  pub some : 0 < w
  pub narrow : w ≤ 8
  pub enough : line_length w * (length ws / w) ≤ room
