-- The measure of `emit` is the node number: a child is lower than its parent.
use Rattle.compiler.proofs.Code.+emit.Given as goal

abbrev pub decreases-emit : goal.decreases-emit
decreases-emit l = l.n
