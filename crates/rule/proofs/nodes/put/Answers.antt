-- `rule::nodes::put` meets its contract.
use native.Mathlib.Omega.{arith}
use Rattle.rule.proofs.HoldLaws.{put_is}
use Rattle.rule.proofs.nodes.put.Goals as goal

pub returns : goal.returns
returns c = rw c.copy_from_slice.ensures.after (put_is _ _ _ _ _ _ (omega arith))
