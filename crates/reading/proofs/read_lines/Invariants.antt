-- `read_lines` meets its contract. The loop's invariant is `ReadSoFar`.
use Rattle.std.proofs.Common.{◌≡◌}
use Rattle.std.specs.Slice.Iter.{chunks_exact_rest, chunks_exact_size}
use Rattle.std.specs.Iterator.Adapters.{enumerate_source, enumerate_count}
use Rattle.rules.specs.Text.{line_length}
use Rattle.reading.proofs.ReadSteps.{ReadSoFar}
use Rattle.reading.proofs.read_lines.Given as goal

abbrev pub invariant-loop-k : goal.invariant-loop-k
invariant-loop-k l =
    goal.iterator-loop-k.can_next l.k-iterator
    × goal.iterator-loop-k.is_finite l.k-iterator
    × (chunks_exact_size (enumerate_source l.k-iterator) ≡ line_length l.w)
    × ReadSoFar l.w l.text l.initial.room l.room (enumerate_count l.k-iterator) (chunks_exact_rest (enumerate_source l.k-iterator))
