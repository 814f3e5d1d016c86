-- The round trips, over the words in a frame, for any two calls that meet the definitions of reading and writing: accepted text, read
-- and written again, is itself; accepted words, written and read again, are themselves. Again.antt has them of the contracts.
use mathlib.Core.Path.{◌≡◌, refl, sym, ◌∙◌}
use mathlib.Core.List.{List}
use Prim.Native.Nat.{ℕ, ◌*◌, ◌/◌, ◌<◌, ◌≤◌}
use native.Mathlib.Nat.{mul-div_cancel_left, le_of_mul-le-mul_left, le_refl}
use lib.ListN.{length, take}
use lib.Seq.{sets}
use Rattle.rules.specs.Text.{line_length, lines, words_of_text, text_of}
use Rattle.rules.proofs.ListLaws.{take_sets}
use Rattle.rules.proofs.EndedLaws.{answer_is, after_is}
use Rattle.rules.proofs.TextLaws.{text_accepted, length_text_of, lines_text_of, good_text_of}
use Rattle.rules.proofs.TextLaws.{words_of_text_text_of, length_words_of_text, text_of_words_of_text}
use Rattle.rules.specs.Answer.{Ended, ended, Answer}
use Rattle.rules.specs.Answer.{done}
use Rattle.reading.specs.Reading.{reading}
use Rattle.writing.specs.Writing.{writing}
use Rattle.reading.proofs.Endings.{read_whole}
use Rattle.reading.proofs.HasRead.{has_read}
use Rattle.writing.proofs.Endings.{write_done}
use Rattle.writing.proofs.HasWritten.{has_written}
use Rattle.promises.specs.Again.{Call, Meets, Again, GivesBack, Words}
use Rattle.std.specs.Prelude.{Ok}

-- what is done stands at the front
front_is : (written room after : List ℕ) (n : ℕ) → n ≡ length written → length written ≤ length room → after ≡ sets room 0 written
    → take n after ≡ written
front_is written room after n e h left = rw (e, left) (take_sets written room h)

module _ (first second : Call) (again : Again first second) where
  -- the first call, with its answer
  accepted_end : (end : Ended (Answer ℕ) (List ℕ)) → ended first.answer first.after ≡ end
      → ended (Ok again.amount) first.after ≡ end
  accepted_end end e = rw again.accepted at e

  -- the second call, given what the first wrote, is done with what the first was given
  gives_back : (definition : List ℕ → List ℕ → Ended (Answer ℕ) (List ℕ)) (written : List ℕ) → take again.amount first.after ≡ written
      → done (length first.given) second.room first.given ≡ definition written second.room
      → Meets definition second → GivesBack first second
  gives_back definition written front ends meets =
      let given : second.given ≡ written = again.given_back ∙ front in
      let e = rw given at meets ∙ sym ends in
      let left = after_is e in
      record { answer = answer_is e; left = left; front = front_is first.given second.room second.after _ refl again.enough left }

module _ (w : ℕ) (some_words : 0 < w) (first second : Call) where
  -- accepted text, read and written again
  pub read_write : Meets (reading w) first → Meets (writing w) second → Again first second → GivesBack first second
  read_write read written again =
      let b = first.given in
      let has = has_read w b first.room again.amount first.after (accepted_end first second again _ read) in
      let ws = words_of_text w b in
      let long : length ws ≡ w * lines w b = length_words_of_text w b some_words has.good in
      let frames : length ws / w ≡ lines w b = rw long (mul-div_cancel_left (lines w b) some_words) in
      let bytes : line_length w * (length ws / w) ≡ length b = rw frames (sym has.good.length_is) in
      let same : text_of w ws ≡ b = text_of_words_of_text w b some_words has.good in
      let front = front_is ws first.room first.after _ (has.amount ∙ sym long) (rw long has.enough) has.left in
      let ends = write_done w ws second.room (rw frames has.good.few) (rw (frames, long) (le_refl _)) (rw bytes again.enough) in
      gives_back first second again (writing w) ws front (rw (bytes, same) at ends) written

  -- accepted words, written and read again
  pub write_read : Words first.given → Meets (writing w) first → Meets (reading w) second → Again first second → GivesBack first second
  write_read small written read again =
      let ws = first.given in
      let has = has_written w ws first.room again.amount first.after (accepted_end first second again _ written) in
      let b = text_of w ws in
      let k = length ws / w in
      let long : length b ≡ line_length w * k = length_text_of w ws k has.whole some_words in
      let count : lines w b ≡ k = lines_text_of w ws k has.whole some_words in
      let words : w * lines w b ≡ length ws = rw count (sym has.whole) in
      let few : k ≤ 1024 = le_of_mul-le-mul_left {k = w} (rw has.whole at has.allowed) some_words in
      let good = good_text_of w ws k has.whole some_words few in
      let same : words_of_text w b ≡ ws = words_of_text_text_of w ws k has.whole some_words small in
      let front = front_is b first.room first.after _ (has.amount ∙ sym long) (rw long has.enough) has.left in
      let ends = read_whole w b second.room (text_accepted w b good) (rw words again.enough) in
      gives_back first second again (reading w) b front (rw (words, same) at ends) read
