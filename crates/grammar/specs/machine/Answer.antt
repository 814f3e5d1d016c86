-- The answer of A4 as a function, by the machine: the refusal, and the words that are written. `answers` shows that it is A4's.
use Rattle.std.specs.Prelude.{ℕ, List, []}
use Rattle.std.proofs.Math.Option.{Option, none, some}
use Rattle.rules.specs.Refusal.{refusal}
use Rattle.rules.specs.declared.Refusal.{Refusal}
use Rattle.grammar.specs.Rule.{Rule}
use Rattle.grammar.specs.machine.Bytes.{read_text, taken_of}
use Rattle.grammar.specs.Written.{table_of}
use Rattle.grammar.specs.Typed.{table_answer, told}

unfoldable pub refusal_of : List ℕ → ℕ → Option Rule → Option Refusal
refusal_of text room none = some (refusal 17 (told (taken_of text)))
refusal_of text room (some r) = table_answer (table_of r) room

unfoldable pub words_unless : Option Refusal → List ℕ → List ℕ
words_unless (some q) t = []
words_unless none t = t

unfoldable pub table_of_read : Option Rule → List ℕ
table_of_read none = []
table_of_read (some r) = table_of r

unfoldable pub typed_refusal : List ℕ → ℕ → Option Refusal
typed_refusal text room = refusal_of text room (read_text text)

unfoldable pub typed_words : List ℕ → ℕ → List ℕ
typed_words text room = words_unless (typed_refusal text room) (table_of_read (read_text text))
