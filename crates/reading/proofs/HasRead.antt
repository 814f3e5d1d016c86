-- What an answer of `read_text` that is done says: the text is good, and its words stand at the front of the room.
use mathlib.Core.Path.{◌≡◌}
use mathlib.Core.List.{List}
use Prim.Native.Nat.{ℕ, ◌*◌, ◌≤◌}
use borrow.Author.Tests.{ltb-false}
use lib.ListN.{length}
use lib.Seq.{sets}
use Rattle.rules.specs.Text.{lines, read_refusal, words_of_text}
use Rattle.rules.proofs.ListLaws.{refuse_none, or_else_none}
use Rattle.rules.proofs.EndedLaws.{text_done}
use Rattle.rules.proofs.TextLaws.{GoodText, accepted_text}
use Rattle.rules.specs.Answer.{ended}
use Rattle.reading.specs.Reading.{reading}
use Rattle.std.specs.Prelude.{Ok}

pub record HasRead (w : ℕ) (b room : List ℕ) (n : ℕ) (after : List ℕ) : Type 0 where
  pub amount : n ≡ w * lines w b
  pub good : GoodText w b
  pub enough : w * lines w b ≤ length room
  pub left : after ≡ sets room 0 (words_of_text w b)

pub has_read : (w : ℕ) (b room : List ℕ) (n : ℕ) (after : List ℕ) → ended (Ok n) after ≡ reading w b room
    → HasRead w b room n after
unfolding reading read_refusal
has_read w b room n after e =
    let ends = text_done (read_refusal w b (length room)) (w * lines w b) n room (words_of_text w b) after e in
    let refused = or_else_none _ _ ends.0 in
    record {
      amount = ends.1;
      good = accepted_text w b refused.0;
      enough = ltb-false _ _ (refuse_none _ 15 0 refused.1);
      left = ends.2;
    }
