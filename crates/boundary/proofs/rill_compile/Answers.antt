-- `rill_compile` compiles, and tells the answer. Assumes nothing.
use mathlib.Core.Path.{◌∙◌}
use Rattle.rules.specs.Answer.{compiled_words}
use Rattle.boundary.specs.Calls.{compile_call}
use Rattle.boundary.proofs.Telling.{told_as_defined, compiled_told}
use Rattle.boundary.proofs.rill_compile.Goals as goal

pub returns : goal.returns
unfolding compile_call
returns c = told_as_defined compiled_words (c.tell.ensures ∙ compiled_told _) c.compile-compiled.ensures
