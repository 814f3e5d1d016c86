-- `count` sums what the nodes add. The invariant is `SoFar`. Assumes nothing.
use mathlib.Core.Path.{◌≡◌}
use lib.ListN.{length}
use Rattle.compiler.proofs.Counting.{SoFar}
use Rattle.compiler.proofs.count.Given as goal

abbrev pub invariant-loop-node : goal.invariant-loop-node
invariant-loop-node l = record {
  by_four : l.node-iterator.size ≡ 4;
  so_far : SoFar l.t l.total (length l.yielded) l.node-iterator.rest.now;
}
