-- `rill_read_rule` reads a typed rule, and tells the answer. Assumes nothing.
use mathlib.Core.Path.{◌∙◌}
use Rattle.rules.specs.Answer.{text_words}
use Rattle.boundary.specs.Calls.{rule_call}
use Rattle.boundary.proofs.Telling.{told_as_defined, text_told}
use Rattle.boundary.proofs.rill_read_rule.Goals as goal

pub returns : goal.returns
unfolding rule_call
returns c = told_as_defined text_words (c.tell.ensures ∙ text_told _) c.read_rule-typed.ensures
