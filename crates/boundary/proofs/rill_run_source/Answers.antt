-- `rill_run_source` runs the source, and tells the answer. Assumes nothing.
use mathlib.Core.Path.{◌∙◌}
use Rattle.rules.specs.Answer.{source_run_words}
use Rattle.boundary.specs.Calls.{source_call}
use Rattle.boundary.proofs.Telling.{told_as_defined, source_run_told}
use Rattle.boundary.proofs.rill_run_source.Goals as goal

pub returns : goal.returns
unfolding source_call
returns c = told_as_defined source_run_words (c.tell.ensures ∙ source_run_told _) c.run_source-run.ensures
