-- The contracts of `list`, `refused` and `list_frames` admit one answer, and one content of the room after it.
use mathlib.Core.Path.{◌≡◌, sym, ◌∙◌}
use Prim.Native.Nat.{ℕ}
use contract.Lifetimes.{Lfts}
use denote.Triple.Clauses.{AtExit}
use borrow.Fn.Kinds.{Dens, ended_of}
use Rattle.lister.proofs.list.Kinds.{ps, r}
use Rattle.lister.proofs.list.Reads.{Post}
use Rattle.lister.proofs.refused.Kinds as refused-kinds
use Rattle.lister.proofs.refused.Reads as refused-reads
use Rattle.lister.proofs.list_frames.Kinds as frames-kinds
use Rattle.lister.proofs.list_frames.Reads as frames-reads

pub list_determined : (κs : Lfts 2) (a : Dens κs ps) (x y : ℕ) (s t : AtExit (ended_of 2 ps r) κs)
    → Post κs a x s → Post κs a y t → (x ≡ y) × (s.1.0.now ≡ t.1.0.now)
list_determined κs a x y s t p q = (p.count ∙ sym q.count, p.left ∙ sym q.left)

pub refused_determined : (κs : Lfts 1) (a : Dens κs refused-kinds.ps) (x y : ℕ) (s t : AtExit (ended_of 1 refused-kinds.ps refused-kinds.r) κs)
    → refused-reads.Post κs a x s → refused-reads.Post κs a y t → (x ≡ y) × (s.1.1.0.now ≡ t.1.1.0.now)
refused_determined κs a x y s t p q = (p.count ∙ sym q.count, p.left ∙ sym q.left)

pub list_frames_determined : (κs : Lfts 2) (a : Dens κs frames-kinds.ps) (x y : ℕ) (s t : AtExit (ended_of 2 frames-kinds.ps frames-kinds.r) κs)
    → frames-reads.Post κs a x s → frames-reads.Post κs a y t → (x ≡ y) × (s.1.0.now ≡ t.1.0.now)
list_frames_determined κs a x y s t p q = (p.count ∙ sym q.count, p.left ∙ sym q.left)
