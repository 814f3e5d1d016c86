-- `tokens::moves::row_of` meets its contract.
use native.Mathlib.Omega.{arith}
use Rattle.tokens.proofs.ArrayLaws.{row_few, row_above, row_itself}
use Rattle.tokens.proofs.moves.row_of.Goals as goal

pub overflow_add-result : goal.overflow_add-result
overflow_add-result c = let h = row_few c.args.mode c.args.left c.if-left-mode.true in omega arith

pub returns-then-left-mode : goal.returns-then-left-mode
returns-then-left-mode c = row_above _ _ c.if-left-mode.true

pub returns-else-left-mode : goal.returns-else-left-mode
returns-else-left-mode c = row_itself _ _ c.if-left-mode.false
