-- `room` is as long as its type says.
use mathlib.Core.Path.{sym}
use Prim.Native.Nat.{ℕ}
use lib.ListN.{length-replicate}
use Rattle.typed.proofs.room.Goals as goal

pub returns : goal.returns
returns c = sym (length-replicate {0} {A = ℕ} 1048577 0)
