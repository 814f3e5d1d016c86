-- The evaluators call each other on children, so the node's number falls. `operand` calls `arith` on the same node, so twice the number is what falls,
-- with one more in `operand` (and in `boolean`, so that one law serves both).
use Prim.Native.Nat.{◌+◌, ◌*◌}
use Rattle.evaluate.proofs.+arith_boolean_operand.Given as goal

abbrev pub decreases-arith : goal.decreases-arith
decreases-arith l = 2 * l.n

abbrev pub decreases-boolean : goal.decreases-boolean
decreases-boolean l = 2 * l.n + 1

abbrev pub decreases-operand : goal.decreases-operand
decreases-operand l = 2 * l.n + 1
