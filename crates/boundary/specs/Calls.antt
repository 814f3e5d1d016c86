-- The calls of the C boundary: for every input the eight words of the answer, and what the lent buffer holds then. Each is the
-- public function's own definition, its answer told in the words that `Answer` gives for the answer's cases.
use Rattle.std.specs.Prelude.{ℕ, List, ℤ}
use Rattle.rules.specs.Expression.{Store}
use Rattle.rules.specs.Answer.{Ended, ended, checked_words, compiled_words, source_run_words, code_run_words, text_words}
use Rattle.table.specs.Checking.{checking}
use Rattle.compiler.specs.Compiling.{compiling}
use Rattle.source.specs.SourceRun.{source_run}
use Rattle.code.specs.CodeRun.{code_run}
use Rattle.depot.specs.Depot.{Lent, depot}
use Rattle.reading.specs.Reading.{reading}
use Rattle.writing.specs.Writing.{writing}
use Rattle.rule.specs.ReadingRule.{reading_rule}

-- the table check lends nothing to be altered
unfoldable pub check_call : List ℕ → List ℕ
check_call t = checked_words (checking t)

unfoldable pub compile_call : List ℕ → ℕ → List ℕ → Ended (List ℕ) (List ℕ)
compile_call t start room = ended (compiled_words (compiling t start room).answer) (compiling t start room).after

unfoldable pub source_call : List ℕ → Store → ℕ → Ended (List ℕ) Store
source_call t σ fuel = ended (source_run_words (source_run t σ fuel).answer) (source_run t σ fuel).after

unfoldable pub code_call : List ℕ → List ℕ → ℕ → Store → ℕ → Ended (List ℕ) Store
code_call t c start σ fuel = ended (code_run_words (code_run t c start σ fuel).answer) (code_run t c start σ fuel).after

-- 02, A1: "It answers done", and has two things lent: the stores and the room
unfoldable pub depot_call : List ℕ → List ℕ → ℕ → List ℤ → ℕ → List ℕ → Ended (List ℕ) Lent
depot_call t c start stores fuel room =
    ended (checked_words (depot t c start stores fuel room).answer) (depot t c start stores fuel room).after

-- "One frame a line: four words"
unfoldable pub read_call : List ℕ → List ℕ → Ended (List ℕ) (List ℕ)
read_call b room = ended (text_words (reading 4 b room).answer) (reading 4 b room).after

unfoldable pub write_call : List ℕ → List ℕ → Ended (List ℕ) (List ℕ)
write_call ws room = ended (text_words (writing 4 ws room).answer) (writing 4 ws room).after

-- 02, A4: a rule as a planner types it, read into its table
unfoldable pub rule_call : List ℕ → List ℕ → Ended (List ℕ) (List ℕ)
rule_call text room = ended (text_words (reading_rule text room).answer) (reading_rule text room).after
