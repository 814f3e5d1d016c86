-- Answers: this paper's number and values for each case of each answer, as the eight words of the C boundary:
-- verdict (0 done, 1 finished, 2 out of fuel, 3 refused), number, place, label, amount, and three that later requests fill.
use Rattle.std.specs.Prelude.{ℕ, List, [], ◌∷◌, Result, Ok, Err}
use Rattle.std.proofs.Math.Option.{Option, none, some}
use Rattle.std.proofs.lemmas.List.Edits.{sets}
use Rattle.rules.specs.Refusal.{number_of}
use Rattle.rules.specs.declared.Refusal.{Refusal}
use Rattle.rules.specs.declared.Halt.{Halt}
use Rattle.rules.specs.declared.Made.{Made}
use Rattle.rules.specs.declared.End.{End}

-- what a call answers: what it has done, or its refusal
abbrev pub Answer : Type 0 → Type 0
Answer A = Result A Refusal

abbrev pub eight : ℕ → ℕ → ℕ → ℕ → ℕ → List ℕ
eight verdict number place label amount = verdict ∷ number ∷ place ∷ label ∷ amount ∷ 0 ∷ 0 ∷ 0 ∷ []

abbrev pub refused : Refusal → List ℕ
refused r = eight 3 (number_of r.reason) r.place 0 0

unfoldable pub checked_words : Answer (Unit {0}) → List ℕ
checked_words (Ok done) = eight 0 0 0 0 0
checked_words (Err r) = refused r

-- "compilation the instruction count and end label"
unfoldable pub compiled_words : Answer Made → List ℕ
compiled_words (Ok m) = eight 0 0 0 m.end m.instructions
compiled_words (Err r) = refused r

-- "A code run adds label and steps, a source run steps"
unfoldable pub source_run_words : Answer (End ℕ) → List ℕ
source_run_words (Ok (End.Finished steps)) = eight 1 0 0 0 steps
source_run_words (Ok (End.OutOfFuel steps)) = eight 2 0 0 0 steps
source_run_words (Err r) = refused r

unfoldable pub code_run_words : Answer (End Halt) → List ℕ
code_run_words (Ok (End.Finished h)) = eight 1 0 0 h.label h.steps
code_run_words (Ok (End.OutOfFuel h)) = eight 2 0 0 h.label h.steps
code_run_words (Err r) = refused r

-- "reading text the number of words and writing text the number of bytes it wrote"
unfoldable pub text_words : Answer ℕ → List ℕ
text_words (Ok amount) = eight 0 0 0 0 amount
text_words (Err r) = refused r

-- how a call ended: its answer, and what it was lent to write to, as that is then. "A refusal alters nothing lent; success alters only the
-- words or bytes it writes, from the front of the room on, and a run only the store."
pub record Ended (Told Lent : Type 0) : Type 0 where
  pub answer : Told
  pub after : Lent

abbrev pub ended : {Told Lent : Type 0} → Told → Lent → Ended Told Lent
ended answer after = record { answer = answer; after = after }

-- a call that is refused answers so, with what it was lent as it was; any other ends as it ends
unfoldable pub unless_refused : {A Lent : Type 0} → Option Refusal → Lent → Ended (Answer A) Lent → Ended (Answer A) Lent
unless_refused (some r) lent end = ended (Err r) lent
unless_refused none lent end = end

-- a call on text that is not refused: "success alters only the words or bytes it writes, from the front of the room on"
abbrev pub done : ℕ → List ℕ → List ℕ → Ended (Answer ℕ) (List ℕ)
done amount room written = ended (Ok amount) (sets room 0 written)
