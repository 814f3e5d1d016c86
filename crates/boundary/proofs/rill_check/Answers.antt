-- `rill_check` checks the table, and tells the answer. Assumes nothing.
use mathlib.Core.Path.{ap, ◌∙◌}
use Rattle.rules.specs.Answer.{checked_words}
use Rattle.boundary.specs.Calls.{check_call}
use Rattle.boundary.proofs.Telling.{checked_told}
use Rattle.boundary.proofs.rill_check.Goals as goal

pub returns : goal.returns
unfolding check_call
returns c = c.tell.ensures ∙ checked_told _ ∙ ap checked_words c.check-checked.ensures
