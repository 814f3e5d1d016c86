-- `table::rows::row_at` meets its contract.
use Rattle.std.proofs.Common.{◌*◌, get_or, ◌∙◌}
use Rattle.table.proofs.RowLaws.{row_right, row_past, row_read}
use Rattle.table.proofs.rows.row_at.Goals as goal

pub returns-then-k-lt37 : goal.returns-then-k-lt37
returns-then-k-lt37 c = row_right (get_or c.args.t.now (4 * c.args.n) 0) _ c.if-k-lt37.true ∙ row_read c.args.t.now c.args.n

pub returns-else-k-lt37 : goal.returns-else-k-lt37
returns-else-k-lt37 c = row_past (get_or c.args.t.now (4 * c.args.n) 0) c.if-k-lt37.false ∙ row_read c.args.t.now c.args.n
