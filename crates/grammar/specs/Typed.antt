-- What reading a rule as typed answers (02, A4): "Text is accepted exactly if it is in this grammar, its table passes 01 and fits the
-- room … Refusals: 17, not in the grammar, …; then 1, 9, 15."
use Rattle.std.specs.Prelude.{◌≡◌, ℕ, min, List, [], ltb, length}
use Rattle.std.proofs.Math.Option.{Option, none, some}
use Rattle.rules.specs.Refusal.{refusal, refuse, ◌or_else◌}
use Rattle.rules.specs.declared.Refusal.{Refusal}
use Rattle.rules.specs.Table.{table_refusal}
use Rattle.grammar.specs.Rule.{Rule}
use Rattle.grammar.specs.Layout.{InGrammar, Longest}
use Rattle.grammar.specs.Written.{table_of}

-- "its table passes 01 and fits the room"; of 01's refusals only 1 and 9 are left (`typed_refusal_lem`, proofs/table/TypedRefusals)
unfoldable pub table_answer : List ℕ → ℕ → Option Refusal
table_answer t room = table_refusal t or_else refuse (ltb room (length t)) 15 0

-- a place is told in a 32-bit word: one beyond the greatest as the greatest
abbrev pub told : ℕ → ℕ
told k = min k 4294967295

-- the refusal, if any, and the words that are written from the front of the room on
pub data Answers (text : List ℕ) (room : ℕ) : Option Refusal → List ℕ → Type 0 where
  outside : {k : ℕ}
      → ((r : Rule) → InGrammar text r → ⊥) → Longest text k → Answers text room (some (refusal 17 (told k))) []
  refused : {r : Rule} {q : Refusal}
      → InGrammar text r → table_answer (table_of r) room ≡ some q → Answers text room (some q) []
  accepted : {r : Rule} → InGrammar text r → table_answer (table_of r) room ≡ none → Answers text room none (table_of r)
