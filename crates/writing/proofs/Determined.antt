-- The contract of each public function admits one answer, and one content of the room after it (the second parameter).
use Prim.Native.Nat.{ℕ}
use mathlib.Core.Path.{◌≡◌}
use contract.Lifetimes.{Lfts}
use denote.Triple.Clauses.{AtExit}
use borrow.Fn.Kinds.{Dens, ended_of}
use Rattle.rules.proofs.EndedLaws.{one_end}
use Rattle.writing.proofs.write_text.Kinds as write-text-kinds
use Rattle.writing.proofs.write_text.Reads as write-text-reads
use Rattle.writing.proofs.write_pairs.Kinds as write-pairs-kinds
use Rattle.writing.proofs.write_pairs.Reads as write-pairs-reads
use Rattle.rules.specs.Answer.{Answer}

module _ (κs : Lfts 2) (x y : Answer ℕ) where
  pub write_text_determined : (a : Dens κs write-text-kinds.ps) (s t : AtExit (ended_of 2 write-text-kinds.ps write-text-kinds.r) κs)
      → write-text-reads.Post κs a x s → write-text-reads.Post κs a y t → (x ≡ y) × (s.1.0.now ≡ t.1.0.now)
  write_text_determined a s t p q = one_end p q

  pub write_pairs_determined : (a : Dens κs write-pairs-kinds.ps) (s t : AtExit (ended_of 2 write-pairs-kinds.ps write-pairs-kinds.r) κs)
      → write-pairs-reads.Post κs a x s → write-pairs-reads.Post κs a y t → (x ≡ y) × (s.1.0.now ≡ t.1.0.now)
  write_pairs_determined a s t p q = one_end p q
