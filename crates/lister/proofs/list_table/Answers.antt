-- `list_table` compiles the table, and writes the text of its code or the line of its refusal.
use Rattle.std.proofs.Common.{refl, sym, arith}
use Rattle.std.proofs.Math.Seq.{length-take-le}
use Rattle.lister.proofs.Endings.{compiled, code_frames, compiled_listed, refused_listed, refusal_listed}
use Rattle.lister.proofs.list_table.Goals as goal

pub slice_bounds-code-end : goal.slice_bounds-code-end
slice_bounds-code-end c =
    let has = compiled _ _ _ _ _ refl c.compile.ensures _ c.in-Ok.is in
    omega (arith, has.few, c.compile.auto.room)

pub slice_bounds-list_frames-end : goal.slice_bounds-list_frames-end
slice_bounds-list_frames-end c =
    let has = compiled _ _ _ _ _ refl c.compile.ensures _ c.in-Ok.is in
    sym (length-take-le _ c.compile.new.room (omega (arith, has.few, c.compile.auto.room)))

pub list_frames-requires : goal.list_frames-requires
list_frames-requires c =
    code_frames (compiled _ _ _ _ _ refl c.compile.ensures _ c.in-Ok.is) c.compile.auto.room (omega arith)

pub returns-in-Err : goal.returns-in-Err
returns-in-Err c =
    refused_listed _ _ _ _ _ refl c.compile.ensures _ (omega arith) c.in-Err.is
    (refusal_listed _ (omega (arith, c.number.ensures)) c.refused.ensures)

pub returns-in-Ok : goal.returns-in-Ok
returns-in-Ok c =
    compiled_listed (compiled _ _ _ _ _ refl c.compile.ensures _ c.in-Ok.is) (omega arith) c.list_frames.ensures
