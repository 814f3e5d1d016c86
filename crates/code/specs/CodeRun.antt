-- The code run (01, "Code and its steps" and "Verdicts"): for every input the answer, and what the store holds then.
use Rattle.std.specs.Prelude.{ℕ, ◌-◌, List, Ok}
use Rattle.std.proofs.Math.Option.{Option}
use Rattle.rules.specs.Expression.{Store}
use Rattle.rules.specs.Goto.{Halted, finished, out, run}
use Rattle.rules.specs.Table.{meaning}
use Rattle.rules.specs.CodeWords.{code_of}
use Rattle.rules.specs.Answer.{Ended, ended, unless_refused, Answer}
use Rattle.rules.specs.declared.Refusal.{Refusal}
use Rattle.rules.specs.StoreRefusal.{store_refusal}
use Rattle.instructions.specs.Admission.{admission}
use Rattle.rules.specs.declared.End.{End}
use Rattle.rules.specs.declared.Halt.{Halt}

-- "a code run 1 to 11 and 13"
unfoldable pub code_run_refusal : List ℕ → List ℕ → ℕ → Store → Option Refusal
code_run_refusal t c start σ = admission t c start (store_refusal σ)

-- "A code run adds label and steps": with fuel n, the steps are the fuel spent
unfoldable pub code_end : ℕ → Halted → Ended (Answer (End Halt)) Store
code_end n (finished ℓ σ left) = ended (Ok (End.Finished (record { label = ℓ; steps = n - left }))) σ
code_end n (out ℓ σ) = ended (Ok (End.OutOfFuel (record { label = ℓ; steps = n }))) σ

unfoldable pub code_run : List ℕ → List ℕ → ℕ → Store → ℕ → Ended (Answer (End Halt)) Store
code_run t c start σ n = unless_refused (code_run_refusal t c start σ) σ (code_end n (run (meaning t) (code_of c) n start σ))
