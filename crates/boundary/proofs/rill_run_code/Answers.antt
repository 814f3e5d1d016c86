-- `rill_run_code` runs the code, and tells the answer. Assumes nothing.
use mathlib.Core.Path.{◌∙◌}
use Rattle.rules.specs.Answer.{code_run_words}
use Rattle.boundary.specs.Calls.{code_call}
use Rattle.boundary.proofs.Telling.{told_as_defined, code_run_told}
use Rattle.boundary.proofs.rill_run_code.Goals as goal

pub returns : goal.returns
unfolding code_call
returns c = told_as_defined code_run_words (c.tell.ensures ∙ code_run_told _) c.run_code-run.ensures
