-- Refusal 10 (01, "Verdicts, numbers and their order"), of both runs.
use Rattle.std.specs.Prelude.{not, eqb, length}
use Rattle.std.proofs.Math.Option.{Option}
use Rattle.rules.specs.Expression.{Store}
use Rattle.rules.specs.Refusal.{refuse}
use Rattle.rules.specs.declared.Refusal.{Refusal}

-- "store not 32 values"
unfoldable pub store_refusal : Store → Option Refusal
store_refusal σ = refuse (not (eqb (length σ) 32)) 10 0
