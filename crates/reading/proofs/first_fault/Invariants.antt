-- `first_fault` meets its contract. The loop's invariant is `Sought`.
use Rattle.std.proofs.Common.{◌≡◌}
use Rattle.std.specs.Slice.Iter.{chunks_rest, chunks_size}
use Rattle.std.specs.Iterator.Adapters.{enumerate_source, enumerate_count}
use Rattle.rules.specs.Text.{line_length}
use Rattle.reading.proofs.ReadSteps.{Sought}
use Rattle.reading.proofs.first_fault.Given as goal

abbrev pub invariant-loop-k : goal.invariant-loop-k
invariant-loop-k l =
    goal.iterator-loop-k.can_next l.k-iterator
    × goal.iterator-loop-k.is_finite l.k-iterator
    × (chunks_size (enumerate_source l.k-iterator) ≡ line_length l.w)
    × Sought l.w l.text (enumerate_count l.k-iterator) (chunks_rest (enumerate_source l.k-iterator))
