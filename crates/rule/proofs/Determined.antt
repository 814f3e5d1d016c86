-- The contract of the public function admits one answer, and one content of the room after it (the second parameter).
use Prim.Native.Nat.{ℕ}
use mathlib.Core.Path.{◌≡◌}
use contract.Lifetimes.{Lfts}
use denote.Triple.Clauses.{AtExit}
use borrow.Fn.Kinds.{Dens, ended_of}
use Rattle.rules.proofs.EndedLaws.{one_end}
use Rattle.rule.proofs.read_rule.Kinds as read-rule-kinds
use Rattle.rule.proofs.read_rule.Reads as read-rule-reads
use Rattle.rules.specs.Answer.{Answer}

module _ (κs : Lfts 2) (x y : Answer ℕ) where
  pub read_rule_determined : (a : Dens κs read-rule-kinds.ps) (s t : AtExit (ended_of 2 read-rule-kinds.ps read-rule-kinds.r) κs)
      → read-rule-reads.Post κs a x s → read-rule-reads.Post κs a y t → (x ≡ y) × (s.1.0.now ≡ t.1.0.now)
  read_rule_determined a s t p q = one_end p q
