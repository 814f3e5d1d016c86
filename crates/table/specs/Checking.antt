-- What the table check answers (01, "The table check gives 1 to 9"), for every list of words.
use Rattle.std.specs.Prelude.{ℕ, List, Ok, Err}
use Rattle.std.proofs.Math.Option.{Option, none, some}
use Rattle.rules.specs.Table.{table_refusal}
use Rattle.rules.specs.declared.Refusal.{Refusal}
use Rattle.rules.specs.Answer.{Answer}

-- a refusal, or done where there is none
unfoldable pub answer : Option Refusal → Answer (Unit {0})
answer (some r) = Err r
answer none = (Ok tt)

unfoldable pub checking : List ℕ → Answer (Unit {0})
checking t = answer (table_refusal t)
