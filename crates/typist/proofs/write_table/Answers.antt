-- `write_table` reads the rule, and writes the text of its table or the line of its refusal.
use Rattle.std.proofs.Common.{take, lit≤, refl, sym, arith}
use Rattle.std.proofs.Math.Seq.{length-take-le}
use Rattle.rules.proofs.TextLaws.{length_text_of}
use Rattle.lister.proofs.Endings.{refusal_listed}
use Rattle.typist.proofs.Endings.{table_read, unread_written, table_written}
use Rattle.typist.proofs.write_table.Goals as goal

pub slice_bounds-words-end : goal.slice_bounds-words-end
slice_bounds-words-end c =
    let has = table_read _ _ _ _ refl c.read_rule.ensures _ c.in-Ok.is in
    omega (arith, has.few, c.read_rule.auto.room)

pub slice_bounds-list_frames-end : goal.slice_bounds-list_frames-end
slice_bounds-list_frames-end c =
    let has = table_read _ _ _ _ refl c.read_rule.ensures _ c.in-Ok.is in
    sym (length-take-le c.in-Ok.n c.read_rule.new.room (omega (arith, has.few, c.read_rule.auto.room)))

pub list_frames-requires : goal.list_frames-requires
list_frames-requires c =
    (table_read _ _ _ _ refl c.read_rule.ensures _ c.in-Ok.is).frames

pub returns-in-Err : goal.returns-in-Err
returns-in-Err c =
    unread_written _ _ _ _ refl c.read_rule.ensures _ c.in-Err.is
    (refusal_listed _ (omega (arith, c.number.ensures)) c.refused.ensures)

pub returns-in-Ok : goal.returns-in-Ok
returns-in-Ok c =
    let frames = (table_read _ _ _ _ refl c.read_rule.ensures _ c.in-Ok.is).frames in
    let lines = length_text_of 4 (take c.in-Ok.n c.read_rule.new.room) frames.frames frames.whole (lit≤ tt) in
    let listed = table_written _ _ _ _ refl c.read_rule.ensures _ c.in-Ok.is c.list_frames.ensures in
    record { count = omega (arith, listed.count, c.list_frames.ensures.count, lines); left = listed.left; within = omega (arith, listed.within) }
