-- The words of an answer by what was done: a refusal is told alike by every call.
use Rattle.std.specs.Prelude.{ℕ, List, Ok, Err}
use Rattle.rules.specs.Answer.{Answer, eight, refused}
use Rattle.rules.specs.declared.End.{End}
use Rattle.rules.specs.declared.Halt.{Halt}

abbrev pub told_by : {A : Type 0} → (A → List ℕ) → Answer A → List ℕ
told_by words (Ok done) = words done
told_by words (Err r) = refused r

abbrev pub source_end_words : End ℕ → List ℕ
source_end_words (End.Finished steps) = eight 1 0 0 0 steps
source_end_words (End.OutOfFuel steps) = eight 2 0 0 0 steps

abbrev pub code_end_words : End Halt → List ℕ
code_end_words (End.Finished h) = eight 1 0 0 h.label h.steps
code_end_words (End.OutOfFuel h) = eight 2 0 0 h.label h.steps
