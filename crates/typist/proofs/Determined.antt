-- The contract of `write_table` admits one answer, and one content of the room after it.
use mathlib.Core.Path.{◌≡◌, sym, ◌∙◌}
use Prim.Native.Nat.{ℕ}
use contract.Lifetimes.{Lfts}
use denote.Triple.Clauses.{AtExit}
use borrow.Fn.Kinds.{Dens, ended_of}
use Rattle.typist.proofs.write_table.Kinds.{ps, r}
use Rattle.typist.proofs.write_table.Reads.{Post}

pub write_table_determined : (κs : Lfts 2) (a : Dens κs ps) (x y : ℕ) (s t : AtExit (ended_of 2 ps r) κs)
    → Post κs a x s → Post κs a y t → (x ≡ y) × (s.1.0.now ≡ t.1.0.now)
write_table_determined κs a x y s t p q = (p.count ∙ sym q.count, p.left ∙ sym q.left)
