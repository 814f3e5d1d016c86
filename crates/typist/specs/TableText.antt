-- The program `typed` (02, A4): the bytes it writes, for all that it may read. Its own room holds the words of 1,024 nodes.
use Rattle.std.specs.Prelude.{List, ℕ}
use Rattle.rules.specs.Text.{text_of}
use Rattle.lister.specs.Listing.{line_or}
use Rattle.grammar.specs.machine.Answer.{typed_refusal, typed_words}

-- the text of the typed rule's table, as 01 has it: "One frame a line: four words"; on a refusal its line, as a listing has it
unfoldable pub typed_text : List ℕ → List ℕ
typed_text text = line_or (typed_refusal text 4096) (text_of 4 (typed_words text 4096))
