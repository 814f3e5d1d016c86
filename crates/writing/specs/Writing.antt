-- Writing text (01, "Text" and "Verdicts, numbers and their order"), over the words in a frame: for every input the answer, and what
-- the lent room holds after it.
use Rattle.std.specs.Prelude.{ℕ, ◌*◌, ◌/◌, List, length}
use Rattle.rules.specs.Text.{line_length, text_of, write_refusal}
use Rattle.rules.specs.Answer.{Ended, unless_refused, Answer}
use Rattle.rules.specs.Answer.{done}

-- "and writing text the number of bytes it wrote"
unfoldable pub writing : ℕ → List ℕ → List ℕ → Ended (Answer ℕ) (List ℕ)
writing w ws room =
    unless_refused (write_refusal w ws (length room)) room (done (line_length w * (length ws / w)) room (text_of w ws))
