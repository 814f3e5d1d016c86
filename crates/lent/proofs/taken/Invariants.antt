-- `taken` meets its contract. The loop's invariant: the first i values are copied.
use Rattle.lent.proofs.Copies.{Copied}
use Rattle.lent.proofs.taken.Given as goal

abbrev pub invariant-loop-i : goal.invariant-loop-i
invariant-loop-i l = Copied 32 l.i l.s l.v
