-- The contract of each public function admits one answer, and one content of the room after it (the second parameter).
use Prim.Native.Nat.{ℕ}
use mathlib.Core.Path.{◌≡◌}
use contract.Lifetimes.{Lfts}
use denote.Triple.Clauses.{AtExit}
use borrow.Fn.Kinds.{Dens, ended_of}
use Rattle.rules.proofs.EndedLaws.{one_end}
use Rattle.reading.proofs.read_text.Kinds as read-text-kinds
use Rattle.reading.proofs.read_text.Reads as read-text-reads
use Rattle.rules.specs.Answer.{Answer}

module _ (κs : Lfts 2) (x y : Answer ℕ) where
  pub read_text_determined : (a : Dens κs read-text-kinds.ps) (s t : AtExit (ended_of 2 read-text-kinds.ps read-text-kinds.r) κs)
      → read-text-reads.Post κs a x s → read-text-reads.Post κs a y t → (x ≡ y) × (s.1.0.now ≡ t.1.0.now)
  read_text_determined a s t p q = one_end p q
