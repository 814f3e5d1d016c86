-- `compile_accepted` ends as the definition says: each test is one of its refusals, and the code written is the program's.
-- Assumes nothing.
use native.Mathlib.Omega.{arith}
use Rattle.rules.proofs.TableLaws.{Facts, accepted_facts}
use Rattle.rules.proofs.Bound.{few_instructions}
use Rattle.compiler.proofs.Endings.{room_short, whole_fits, compiled}
use Rattle.compiler.proofs.compile_accepted.Goals as goal

pub overflow_add-end : goal.overflow_add-end
overflow_add-end c =
    let f : Facts _ = accepted_facts _ c.requires in
    omega (arith, few_instructions _ f, f.few)

pub returns-then-room-instructions : goal.returns-then-room-instructions
returns-then-room-instructions c =
    rw c.at-then-room-instructions.ensures (room_short _ _ _ c.requires (omega arith) (omega arith))

pub write_code-requires : goal.write_code-requires
write_code-requires c =
    whole_fits _ _ _ c.requires (omega arith) (omega arith)

pub returns : goal.returns
returns c =
    compiled _ _ _ c.requires (omega arith) (omega arith) c.count-instructions.ensures c.write_code.ensures
