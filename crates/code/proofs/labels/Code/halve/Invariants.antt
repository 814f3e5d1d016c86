-- `halve` meets its contract. The loop's invariant: below `low` every label is too low, from `high` on every label is too
-- high, so the label stands between the two or nowhere; each turn brings them closer.
use Prim.Native.Nat.{◌-◌}
use Rattle.code.proofs.Places.{Between}
use Rattle.code.proofs.labels.Code.halve.Given as goal

abbrev pub invariant-loop-low : goal.invariant-loop-low
invariant-loop-low l = Between l.self.words.now l.label l.low l.high

abbrev pub decreases-loop-low : goal.decreases-loop-low
decreases-loop-low l = l.high - l.low
