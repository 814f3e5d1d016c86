-- `put_words` meets its contract. The loop's invariant: the digits of the first i words are stored.
use Rattle.std.proofs.Common.{◌≡◌, length}
use Rattle.std.proofs.lemmas.List.Edits.{sets}
use Rattle.writing.proofs.WriteSteps.{digits_before}
use Rattle.writing.proofs.put_words.Given as goal

abbrev pub invariant-loop-i : goal.invariant-loop-i
invariant-loop-i l = (length l.room ≡ length l.initial.room) × (l.room ≡ sets l.initial.room 0 (digits_before l.words l.i))
