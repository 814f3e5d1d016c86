-- What an answer of `write_text` or `write_pairs` that is done says: whole frames, and their text at the front of the room.
use mathlib.Core.Path.{◌≡◌}
use mathlib.Core.List.{List}
use Prim.Native.Nat.{ℕ, ◌*◌, ◌/◌, ◌%◌, ◌≤◌}
use native.Mathlib.Nat.{div-add-mod}
use native.Mathlib.Omega.{arith}
use borrow.Author.Tests.{not-false, eqb-true, leb-true, ltb-false}
use lib.Dec.{eqb, leb}
use lib.ListN.{length}
use lib.Seq.{sets}
use Rattle.rules.specs.Text.{line_length, write_refusal, text_of}
use Rattle.rules.proofs.ListLaws.{and_true, refuse_none, or_else_none}
use Rattle.rules.proofs.EndedLaws.{text_done}
use Rattle.rules.specs.Answer.{ended}
use Rattle.writing.specs.Writing.{writing}
use Rattle.std.specs.Prelude.{Ok}

pub record HasWritten (w : ℕ) (ws room : List ℕ) (n : ℕ) (after : List ℕ) : Type 0 where
  pub amount : n ≡ line_length w * (length ws / w)
  pub allowed : length ws ≤ w * 1024
  pub whole : length ws ≡ w * (length ws / w)
  pub enough : line_length w * (length ws / w) ≤ length room
  pub left : after ≡ sets room 0 (text_of w ws)

pub has_written : (w : ℕ) (ws room : List ℕ) (n : ℕ) (after : List ℕ) → ended (Ok n) after ≡ writing w ws room
    → HasWritten w ws room n after
unfolding writing write_refusal
has_written w ws room n after e =
    let ends = text_done (write_refusal w ws (length room)) (line_length w * (length ws / w)) n room (text_of w ws) after e in
    let refused = or_else_none _ _ ends.0 in
    let fits = and_true (eqb (length ws % w) 0) (leb (length ws) (w * 1024)) (not-false _ (refuse_none _ 14 _ refused.0)) in
    let rest : length ws % w ≡ 0 = eqb-true _ _ fits.0 in
    record {
      amount = ends.1;
      allowed = leb-true _ _ fits.1;
      whole = omega (arith, div-add-mod (length ws) w);
      enough = ltb-false _ _ (refuse_none _ 15 0 refused.1);
      left = ends.2;
    }
