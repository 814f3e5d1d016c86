-- `rill_run_depot` runs the crews, and tells the answer. Assumes nothing.
use mathlib.Core.Path.{◌∙◌}
use Rattle.rules.specs.Answer.{checked_words}
use Rattle.boundary.specs.Calls.{depot_call}
use Rattle.boundary.proofs.Telling.{told_as_defined, checked_told}
use Rattle.boundary.proofs.rill_run_depot.Goals as goal

pub returns : goal.returns
unfolding depot_call
returns c = told_as_defined checked_words (c.tell.ensures ∙ checked_told _) c.run_depot-ran.ensures
