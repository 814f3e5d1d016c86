-- `list_frames` writes the text of whole frames.
use Rattle.std.proofs.Common.{arith}
use Rattle.lister.proofs.Endings.{frames_listed}
use Rattle.lister.proofs.list_frames.Goals as goal

pub returns : goal.returns
returns c =
    let listed = frames_listed _ _ _ _ c.requires (omega arith) c.write_text.ensures in
    record { count = omega (arith, listed.count); left = listed.left; within = omega (arith, listed.within) }
