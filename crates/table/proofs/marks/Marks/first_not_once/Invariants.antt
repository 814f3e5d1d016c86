-- `table::marks::Marks::first_not_once` meets its contract. The loop's invariant: every node of the words passed is named exactly once.
use Rattle.std.proofs.Common.{◌≡◌, ℕ, ◌*◌, ◌<◌}
use Rattle.table.specs.inside.Sets.{named}
use Rattle.table.proofs.marks.Marks.first_not_once.Given as goal

abbrev pub invariant-loop-i : goal.invariant-loop-i
invariant-loop-i l = (k : ℕ) → k < 32 * l.i → named l.self k ≡ 1
