-- `table::levels::Tree::add_all` meets its contract. The loop's invariant: with the children of the nodes that are left, the level is as
-- it will be.
use Rattle.std.proofs.Common.{◌≡◌}
use Rattle.table.specs.inside.Sets.{Nodes, adds, under, Inside}
use Rattle.table.proofs.levels.Tree.add_all.Given as goal

abbrev pub invariant-loop-left : goal.invariant-loop-left
invariant-loop-left l =
    Inside l.self.table.now l.i l.left
    × (◌≡◌ {A = Nodes} (adds l.level (under l.self.table.now l.i l.left)) (adds l.initial.level (under l.self.table.now l.i l.taken)))

abbrev pub decreases-loop-left : goal.decreases-loop-left
decreases-loop-left l = l.left
