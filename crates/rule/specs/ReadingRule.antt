-- Reading a typed rule (02, A4): for every input the answer, and what the lent room holds after it. That this is A4's answer,
-- `Answers` of the grammar's specs, is `answers` there.
use Rattle.std.specs.Prelude.{List, ℕ, length}
use Rattle.rules.specs.Answer.{Ended, unless_refused, done, Answer}
use Rattle.grammar.specs.machine.Answer.{typed_refusal, typed_words}

unfoldable pub reading_rule : List ℕ → List ℕ → Ended (Answer ℕ) (List ℕ)
reading_rule text room =
    unless_refused (typed_refusal text (length room)) room
    (done (length (typed_words text (length room))) room (typed_words text (length room)))
