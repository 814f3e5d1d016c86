-- `write_frames` meets its contract: each way out is one ending of the definition.
use native.Mathlib.Omega.{arith}
use native.Mathlib.Nat.{mul-div-le}
use lib.ListN.{length}
use Rattle.writing.proofs.Endings.{write_late, write_ragged, write_no_room, write_done}
use Rattle.writing.proofs.write_frames.Goals as goal

pub returns-then-n-gt1024 : goal.returns-then-n-gt1024
returns-then-n-gt1024 c = rw c.at.ensures (write_late _ _ _ (omega arith) (omega arith))

pub returns-then-w-n : goal.returns-then-w-n
returns-then-w-n c =
    rw c.at-then-w-n.ensures
    (write_ragged _ _ _ (omega arith) (omega (arith, mul-div-le (length c.args.words.now) c.args.w)))

pub returns-then-room-long : goal.returns-then-room-long
returns-then-room-long c = rw c.at-then-room-long.ensures (write_no_room _ _ _ (omega arith) (omega arith) (omega arith))

pub returns : goal.returns
returns c =
    rw c.write_lines.ensures (write_done _ _ _ (omega arith) (omega arith) (omega arith))
