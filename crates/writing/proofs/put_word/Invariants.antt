-- `put_word` meets its contract. The loop's invariant: with the digits of the bytes above, what is stored is the whole word.
use Rattle.std.proofs.Common.{◌≡◌, ◌-◌, ◌*◌, ◌/◌, ◌^◌, length}
use Rattle.std.proofs.lemmas.List.Edits.{sets}
use Rattle.rules.specs.Text.{digits_of}
use Rattle.writing.proofs.put_word.Given as goal

abbrev pub invariant-loop-i : goal.invariant-loop-i
invariant-loop-i l =
    (length l.room ≡ length l.initial.room)
    × (sets l.room 0 (digits_of (8 - 2 * l.i) (l.word / 256 ^ l.i)) ≡ sets l.initial.room 0 (digits_of 8 l.word))
