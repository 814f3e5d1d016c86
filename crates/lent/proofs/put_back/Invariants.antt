-- `put_back` meets its contract. The loop's invariant: the first k values are copied.
use Rattle.lent.proofs.Copies.{Copied}
use Rattle.lent.proofs.put_back.Given as goal

abbrev pub invariant-loop-k : goal.invariant-loop-k
invariant-loop-k l = Copied 32 l.k l.v l.s
