-- `leaves` meets its contract: past the test both operands are leaves, and are read.
use mathlib.Core.Path.{◌≡◌}
use mathlib.Core.Bool.{true, ◌&&◌}
use Prim.Native.Nat.{ℕ, ◌≤◌}
use lib.Dec.{leb, lit<}
use borrow.Author.Tests.{leb-true}
use Rattle.rules.specs.Table.{arithmetic}
use Rattle.rules.proofs.ListLaws.{and_true}
use Rattle.evaluate.proofs.Nodes.{word_inside}
use Rattle.evaluate.proofs.leaves.Goals as goal

both_low : (a b : ℕ) → (leb a 2 && leb b 2) ≡ true → (a ≤ 2) × (b ≤ 2)
both_low a b e = let both = and_true _ _ e in (leb-true _ _ both.0, leb-true _ _ both.1)

pub place-p-requires : goal.place-p-requires
place-p-requires c = word_inside c.requires.node _ (lit< tt)

pub place-q-requires : goal.place-q-requires
place-q-requires c = word_inside c.requires.node _ (lit< tt)

pub word-first-requires : goal.word-first-requires
word-first-requires c = word_inside {c = arithmetic} (rw c.place-p.ensures c.requires.first) _ (lit< tt)

pub word-second-requires : goal.word-second-requires
word-second-requires c = word_inside {c = arithmetic} (rw c.place-q.ensures c.requires.second) _ (lit< tt)
