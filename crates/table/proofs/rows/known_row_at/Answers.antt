-- `table::rows::known_row_at` meets its contract: a node without a fault has a kind.
use Rattle.std.proofs.Common.{◌*◌, get_or, ◌∙◌}
use Rattle.table.proofs.RowLaws.{row_right, row_read, known_kind}
use Rattle.table.proofs.rows.known_row_at.Goals as goal

pub bounds-t : goal.bounds-t
bounds-t c = known_kind c.args.t.now c.args.n c.requires.1

pub returns : goal.returns
returns c =
    let t = c.args.t.now in
    let n = c.args.n in
    row_right (get_or t (4 * n) 0) _ (known_kind t n c.requires.1) ∙ row_read t n
