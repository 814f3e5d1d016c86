-- Demand 2 for the source run: what an answer, with the store after it, says of the natural semantics of While (001, Fig. A.1).
use Rattle.std.specs.Prelude.{◌≡◌, List, ℕ, ◌≤◌, Ok, Err}
use Rattle.std.proofs.Math.Option.{none, some}
use Rattle.rules.specs.Expression.{Store}
use Rattle.rules.specs.While.{Evaluates, count, EvaluatesWithin, Unfinished}
use Rattle.rules.specs.Table.{meaning, program}
use Rattle.rules.specs.declared.Refusal.{Refusal}
use Rattle.source.specs.SourceRun.{source_refusal}
use Rattle.rules.specs.Answer.{Answer}
use Rattle.rules.specs.declared.End.{End}

-- of a table, a store and a fuel
pub data SourceSays (t : List ℕ) (σ : Store) (n : ℕ) : Answer (End ℕ) → Store → Type 0 where
  -- a refusal is the first of 1 to 10 that the input earns, and leaves the store alone
  refused : (r : Refusal) → source_refusal t σ ≡ some r → SourceSays t σ n (Err r) σ
  -- finished: the While rules give this evaluation, with this count
  finished : {σ' : Store} (d : Evaluates (meaning t) (program t) σ σ') → source_refusal t σ ≡ none → count d ≤ n
      → SourceSays t σ n (Ok (End.Finished (count d))) σ'
  -- out of fuel: n units of an evaluation that the rules do not give within n
  out_of_fuel : {σ' : Store} → source_refusal t σ ≡ none → (EvaluatesWithin (meaning t) (program t) σ n → ⊥)
      → Unfinished (meaning t) (program t) σ n σ' → SourceSays t σ n (Ok (End.OutOfFuel n)) σ'
