-- How a call of `read_text` ends, by the tests that it makes: refused 14, refused 15, or done.
use mathlib.Core.Path.{◌≡◌}
use mathlib.Core.List.{List}
use Prim.Native.Nat.{ℕ, ◌*◌, ◌<◌, ◌≤◌}
use borrow.Author.Tests.{lt-ltb, le-ltb}
use lib.Dec.{ltb}
use lib.ListN.{length}
use lib.Seq.{sets}
use Rattle.rules.specs.Refusal.{refusal, refuse}
use Rattle.rules.specs.Text.{lines, read_refusal, words_of_text}
use Rattle.rules.specs.Answer.{ended, unless_refused}
use Rattle.std.specs.Prelude.{Ok, Err}
use Rattle.rules.proofs.ListLaws.{none_or_else, some_or_else}
use Rattle.reading.specs.Reading.{reading}
use Rattle.reading.specs.inside.Parts.{IsGood, FirstFault}

-- without refusal 14, by the room
module _ (w : ℕ) (b room : List ℕ) (accepted : IsGood w b) where
  pub read_short : length room < w * lines w b → ended (Err (refusal 15 0)) room ≡ reading w b room
  unfolding reading unless_refused read_refusal refuse
  read_short l =
      rw (none_or_else _ (refuse (ltb (length room) (w * lines w b)) 15 0) accepted, lt-ltb (length room) (w * lines w b) l)

  pub read_whole : w * lines w b ≤ length room
      → ended (Ok (w * lines w b)) (sets room 0 (words_of_text w b)) ≡ reading w b room
  unfolding reading unless_refused read_refusal refuse
  read_whole l =
      rw (none_or_else _ (refuse (ltb (length room) (w * lines w b)) 15 0) accepted, le-ltb (length room) (w * lines w b) l)

pub read_bad_line : (w : ℕ) (b room : List ℕ) (k : ℕ) → FirstFault w b k → ended (Err (refusal 14 k)) room ≡ reading w b room
unfolding reading unless_refused read_refusal
read_bad_line w b room k found = rw (some_or_else _ (refuse (ltb (length room) (w * lines w b)) 15 0) _ found.lowest)
