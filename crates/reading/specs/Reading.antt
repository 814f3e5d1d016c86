-- Reading text (01, "Text" and "Verdicts, numbers and their order"), over the words in a frame: for every input the answer, and what
-- the lent room holds after it.
use Rattle.std.specs.Prelude.{ℕ, ◌*◌, List, length}
use Rattle.rules.specs.Text.{lines, words_of_text, read_refusal}
use Rattle.rules.specs.Answer.{Ended, unless_refused, Answer}
use Rattle.rules.specs.Answer.{done}

-- "reading text the number of words"
unfoldable pub reading : ℕ → List ℕ → List ℕ → Ended (Answer ℕ) (List ℕ)
reading w b room = unless_refused (read_refusal w b (length room)) room (done (w * lines w b) room (words_of_text w b))
