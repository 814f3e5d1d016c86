-- `table::levels::Tree::pass` meets its contract. The loop's invariant: the words that are left hold nodes of the level, the others nodes
-- of the next.
use Rattle.std.proofs.Common.{ℕ}
use Rattle.table.specs.inside.Sets.{Level}
use Rattle.table.proofs.LevelLaws.{Passing}
use Rattle.table.proofs.levels.Tree.pass.Given as goal

abbrev pub invariant-loop-left : goal.invariant-loop-left
invariant-loop-left l =
    (h : ℕ) → Level l.self.table.now l.fn.level h → Passing l.self.table.now h l.level.0 l.left l.level.1

abbrev pub decreases-loop-left : goal.decreases-loop-left
decreases-loop-left l = l.left
