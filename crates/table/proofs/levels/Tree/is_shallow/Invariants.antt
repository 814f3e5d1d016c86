-- `table::levels::Tree::is_shallow` meets its contract. The loop's invariant: the deepest of the level's nodes and the levels passed make
-- the root's depth.
use Rattle.std.proofs.Common.{◌-◌}
use Rattle.rules.specs.Table.{root, depth_at}
use Rattle.table.specs.inside.Sets.{Level}
use Rattle.table.proofs.levels.Tree.is_shallow.Given as goal

abbrev pub invariant-loop : goal.invariant-loop
invariant-loop l = Level l.self.table.now l.level (depth_at l.self.table.now (root l.self.table.now) - l.counter)
