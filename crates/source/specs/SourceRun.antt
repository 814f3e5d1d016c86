-- The source run (01, "While runs and their count" and "Verdicts, numbers and their order"): for every input the answer, and the store
-- after it.
use Rattle.std.specs.Prelude.{ℕ, ◌-◌, List, Ok}
use Rattle.std.proofs.Math.Option.{Option}
use Rattle.rules.specs.Expression.{Store}
use Rattle.rules.specs.While.{Outcome, done, stop, exec}
use Rattle.rules.specs.Table.{meaning, program, table_refusal}
use Rattle.rules.specs.Refusal.{◌or_else◌}
use Rattle.rules.specs.Answer.{Ended, ended, unless_refused, Answer}
use Rattle.rules.specs.declared.Refusal.{Refusal}
use Rattle.rules.specs.StoreRefusal.{store_refusal}
use Rattle.rules.specs.declared.End.{End}

-- "a source run 1 to 10"
unfoldable pub source_refusal : List ℕ → Store → Option Refusal
source_refusal t σ = table_refusal t or_else store_refusal σ

-- what the run's end tells, and leaves
unfoldable pub source_end : ℕ → Outcome → Ended (Answer (End ℕ)) Store
source_end n (done σ left) = ended (Ok (End.Finished (n - left))) σ
source_end n (stop σ) = ended (Ok (End.OutOfFuel n)) σ

unfoldable pub source_run : List ℕ → Store → ℕ → Ended (Answer (End ℕ)) Store
source_run t σ n = unless_refused (source_refusal t σ) σ (source_end n (exec (meaning t) (program t) n σ))
