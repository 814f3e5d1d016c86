-- `rill_write_text` writes the text, and tells the answer. Assumes nothing.
use mathlib.Core.Path.{◌∙◌}
use Rattle.rules.specs.Answer.{text_words}
use Rattle.boundary.specs.Calls.{write_call}
use Rattle.boundary.proofs.Telling.{told_as_defined, text_told}
use Rattle.boundary.proofs.rill_write_text.Goals as goal

pub returns : goal.returns
unfolding write_call
returns c = told_as_defined text_words (c.tell.ensures ∙ text_told _) c.write_text-written.ensures
