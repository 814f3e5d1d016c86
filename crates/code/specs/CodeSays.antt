-- Demand 2 for the code run: what an answer, with the store after it, says of the steps of Goto (001, Fig. 1).
use Rattle.std.specs.Prelude.{◌≡◌, List, ℕ, ◌≤◌, Ok, Err}
use Rattle.std.proofs.Math.Option.{none, some}
use Rattle.rules.specs.Expression.{Store}
use Rattle.rules.specs.Goto.{InDom, Steps}
use Rattle.rules.specs.Table.{meaning}
use Rattle.rules.specs.CodeWords.{code_of}
use Rattle.rules.specs.declared.Refusal.{Refusal}
use Rattle.rules.specs.declared.Halt.{Halt}
use Rattle.code.specs.CodeRun.{code_run_refusal}
use Rattle.rules.specs.Answer.{Answer}
use Rattle.rules.specs.declared.End.{End}

abbrev pub halt : ℕ → ℕ → Halt
halt label steps = record { label = label; steps = steps }

-- of a table, code, a start label, a store and a fuel
pub data CodeSays (t c : List ℕ) (start : ℕ) (σ : Store) (n : ℕ) : Answer (End Halt) → Store → Type 0 where
  -- a refusal is the first of 1 to 11 and 13 that the input earns, and leaves the store alone
  refused : (r : Refusal) → code_run_refusal t c start σ ≡ some r → CodeSays t c start σ n (Err r) σ
  -- "A label that no instruction bears is a finish"; "the number of steps reported is the number of Fig. 1 steps taken, never above the fuel"
  finished : {k ℓ : ℕ} {σ' : Store} → code_run_refusal t c start σ ≡ none → Steps (meaning t) (code_of c) k start σ ℓ σ' → k ≤ n
      → (InDom (code_of c) ℓ → ⊥) → CodeSays t c start σ n (Ok (End.Finished (halt ℓ k))) σ'
  -- out of fuel: n steps, and an instruction bears the label that they reach
  out_of_fuel : {ℓ : ℕ} {σ' : Store} → code_run_refusal t c start σ ≡ none → Steps (meaning t) (code_of c) n start σ ℓ σ'
      → InDom (code_of c) ℓ → CodeSays t c start σ n (Ok (End.OutOfFuel (halt ℓ n))) σ'
