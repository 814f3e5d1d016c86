-- `table::walk` meets its contract. The loop's invariant: no node passed has a fault, and the marks are those of their children.
use Rattle.std.proofs.Common.{◌≡◌, ℕ, ◌<◌}
use Rattle.rules.specs.Lists.{joined}
use Rattle.rules.specs.Refusal.{fine}
use Rattle.rules.specs.Table.{node_fault, children}
use Rattle.table.specs.inside.Sets.{Marks, bumps}
use Rattle.table.proofs.walk.Given as goal

abbrev pub invariant-loop-n : goal.invariant-loop-n
invariant-loop-n l =
    ((k : ℕ) → k < l.n → node_fault l.t k ≡ fine) × (◌≡◌ {A = Marks} l.marks (bumps l.initial.marks (joined (children l.t) l.n)))
