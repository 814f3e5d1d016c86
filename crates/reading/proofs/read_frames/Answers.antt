-- `read_frames` meets its contract: each way out is one ending of the definition.
use Rattle.std.proofs.Common.{arith}
use Rattle.std.proofs.Math.Nat.{mul-le-mul}
use Rattle.rules.proofs.TextLaws.{accepted_text}
use Rattle.reading.proofs.Endings.{read_bad_line, read_short, read_whole}
use Rattle.reading.proofs.read_frames.Goals as goal

pub returns-in-Some : goal.returns-in-Some
returns-in-Some c = rw c.at.ensures (read_bad_line _ _ _ _ c.in-Some.ensures)

pub returns-then-room-w : goal.returns-then-room-w
returns-then-room-w c = rw c.at-then-room-w.ensures (read_short _ _ _ c.in_default.ensures c.if-room-w.true)

pub overflow_cast-result : goal.overflow_cast-result
overflow_cast-result c =
    omega (arith, mul-le-mul c.requires (accepted_text c.args.w c.args.text.now c.in_default.ensures).few)

pub returns : goal.returns
returns c = rw c.read_lines.ensures (read_whole _ _ _ c.in_default.ensures c.if-room-w.false)
