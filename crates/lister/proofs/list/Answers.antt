-- `list` reads the table, and lists it or writes the line of the refusal.
use mathlib.Core.Path.{refl, sym}
use native.Mathlib.Omega.{arith}
use lib.Seq.{length-take-le}
use Rattle.lister.proofs.Endings.{words_read, table_listed, unread_listed, refusal_listed}
use Rattle.lister.proofs.list.Goals as goal

pub slice_bounds-words-end : goal.slice_bounds-words-end
slice_bounds-words-end c =
    let has = words_read _ _ _ _ refl c.read_text.ensures _ c.in-Ok.is in
    omega (arith, has.few, c.read_text.auto.room)

pub slice_bounds-list_table-end : goal.slice_bounds-list_table-end
slice_bounds-list_table-end c =
    let has = words_read _ _ _ _ refl c.read_text.ensures _ c.in-Ok.is in
    sym (length-take-le c.in-Ok.n c.read_text.new.room (omega (arith, has.few, c.read_text.auto.room)))

pub returns-in-Err : goal.returns-in-Err
returns-in-Err c =
    unread_listed _ _ _ _ refl c.read_text.ensures _ c.in-Err.is
    (refusal_listed _ (omega (arith, c.number.ensures)) c.refused.ensures)

pub returns-in-Ok : goal.returns-in-Ok
returns-in-Ok c =
    table_listed _ _ _ _ refl c.read_text.ensures _ c.in-Ok.is c.list_table.ensures
