-- `rill_read_text` reads the text, and tells the answer. Assumes nothing.
use mathlib.Core.Path.{◌∙◌}
use Rattle.rules.specs.Answer.{text_words}
use Rattle.boundary.specs.Calls.{read_call}
use Rattle.boundary.proofs.Telling.{told_as_defined, text_told}
use Rattle.boundary.proofs.rill_read_text.Goals as goal

pub returns : goal.returns
unfolding read_call
returns c = told_as_defined text_words (c.tell.ensures ∙ text_told _) c.read_text-read.ensures
