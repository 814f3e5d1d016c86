-- `obeys` meets its contract: what it tests is what `code_fault` asks.
use mathlib.Core.Bool.{Bool, true, false, cond}
use mathlib.Core.Path.{◌≡◌, refl, ◌∙◌}
use lib.Dec.{eqb}
use Rattle.rules.specs.Refusal.{fine}
use Rattle.rules.specs.CodeWords.{code_fault}
use Rattle.instructions.proofs.obeys.Goals as goal

tested : (b : Bool) → b ≡ eqb (cond b fine 13) fine
tested true = refl
tested false = refl

pub returns : goal.returns
unfolding code_fault
returns c =
    tested _
    ∙ rw (c.rises.ensures, c.part-4.ensures, c.fields_fit-fit.ensures)
    (rw (c.part-3.ensures, c.part-2.ensures, c.part.ensures))
