-- What is refused before a run of code (01, "Verdicts, numbers and their order": "a code run 1 to 11 and 13").
use Rattle.std.specs.Prelude.{ℕ, List, ltb}
use Rattle.std.proofs.Math.Option.{Option}
use Rattle.rules.specs.Table.{table_refusal}
use Rattle.rules.specs.CodeWords.{code_refusal}
use Rattle.rules.specs.Refusal.{refuse, ◌or_else◌}
use Rattle.rules.specs.declared.Refusal.{Refusal}

-- table, store, start label, code: one call is lent one store and another many, so each brings its own refusal 10
unfoldable pub admission : List ℕ → List ℕ → ℕ → Option Refusal → Option Refusal
admission t c start ten = table_refusal t or_else ten or_else refuse (ltb 65535 start) 11 0 or_else code_refusal t c
