-- `read_line` meets its contract. The loop's invariant: the first i words of the line are stored.
use Rattle.std.proofs.Common.{◌≡◌, length}
use Rattle.std.proofs.lemmas.List.Edits.{sets}
use Rattle.reading.specs.inside.Parts.{words_of_line}
use Rattle.reading.proofs.read_line.Given as goal

abbrev pub invariant-loop-i : goal.invariant-loop-i
invariant-loop-i l = (length l.room ≡ length l.initial.room) × (l.room ≡ sets l.initial.room 0 (words_of_line l.line l.i))
