-- `tell` writes the words that the definition gives for each end of a run. Assumes nothing.
use mathlib.Core.Path.{refl}
use Rattle.depot.specs.Depot.{crew_words}
use Rattle.depot.proofs.tell.Goals as goal
use Rattle.depot.proofs.tell.Goals.{in-Finished, in-OutOfFuel}

pub returns : goal.returns
unfolding crew_words
returns c =
    elim c.match-run.branch [
      | in-Finished w ↦ rw (c.copy_from_slice.ensures.after, w.verdict-is, w.in-Finished.is) refl
      | in-OutOfFuel w ↦ rw (c.copy_from_slice.ensures.after, w.verdict-is, w.in-OutOfFuel.is) refl
    ]
