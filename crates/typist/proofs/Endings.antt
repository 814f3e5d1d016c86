-- How the calls behind a table text end: what has been written or read, given the answer and the contract of the call.
use mathlib.Core.Path.{◌≡◌, refl, ◌∙◌}
use mathlib.Core.List.{List}
use mathlib.Core.Option.{Option, none, some}
use Prim.Native.Nat.{ℕ, ◌*◌, ◌≤◌}
use native.Mathlib.Omega.{arith}
use lib.ListN.{length, take}
use lib.Seq.{length-sets, length-take-le}
use borrow.Author.Tests.{ltb-false}
use Rattle.rules.specs.Text.{text_of}
use Rattle.rules.specs.Answer.{ended, Answer}
use Rattle.rules.specs.declared.Refusal.{Refusal}
use Rattle.rules.proofs.EndedLaws.{was_refused, text_done}
use Rattle.rules.proofs.ListLaws.{refuse_none, or_else_none, take_sets}
use Rattle.grammar.specs.Written.{rule_node, size, table_of}
use Rattle.grammar.specs.Typed.{table_answer, Answers, outside, refused, accepted}
use Rattle.grammar.specs.machine.Answer.{typed_refusal, typed_words}
use Rattle.grammar.proofs.table.Answering.{answers}
use Rattle.grammar.proofs.table.TypedRefusals.{table_length}
use Rattle.rule.specs.ReadingRule.{reading_rule}
use Rattle.lister.specs.Listing.{line_or, refusal_line, Frames, Listed}
use Rattle.typist.specs.TableText.{typed_text}
use Rattle.std.specs.Prelude.{Ok, Err}

-- the words of the table stand at the front of the room
pub record Table (text : List ℕ) (n : ℕ) (after : List ℕ) : Type 0 where
  pub few : n ≤ 4096
  pub frames : Frames (take n after)
  pub front : take n after ≡ typed_words text 4096
  pub not_refused : typed_refusal text 4096 ≡ none

never : {r : Refusal} → some r ≡ none → ⊥
never {r} e = let z : ◌≡◌ {A = ℕ} 0 1 = cc in omega arith

-- a table that is accepted is whole frames, and fits the room
whole_frames : {text : List ℕ} {room : ℕ} {o : Option Refusal} {ws : List ℕ} → Answers text room o ws → o ≡ none
    → (k : ℕ) × (length ws ≡ 4 * k) × (length ws ≤ room)
unfolding table_answer
whole_frames (outside not_in k) e = absurd (never e)
whole_frames (refused g q) e = absurd (never e)
whole_frames {room = room} (accepted {r = p} g q) e =
    (size (rule_node p), table_length p, ltb-false room (length (table_of p)) (refuse_none _ 15 0 (or_else_none _ _ q).1))

module _ (text room after : List ℕ) (x : Answer ℕ) (long : length room ≡ 4096) (call : ended x after ≡ reading_rule text room) where
  pub table_read : (n : ℕ) → x ≡ Ok n → Table text n after
  unfolding reading_rule
  table_read n e =
      let ws = typed_words text (length room) in
      let is = text_done _ _ n room ws after (rw e at call) in
      let whole = whole_frames (answers text (length room)) is.0 in
      let as_long : length after ≡ length room = rw is.2 (length-sets room 0 ws) in
      record {
        few = omega (arith, is.1, whole.2, long);
        frames = record {
          frames = whole.0;
          whole = length-take-le n after (omega (arith, is.1, whole.2, as_long)) ∙ is.1 ∙ whole.1;
          few = omega (arith, whole.1, whole.2, long);
        };
        front = rw (is.1, is.2, ← long) (take_sets ws room whole.2);
        not_refused = rw long at is.0;
      }

  pub unread_written : (q : Refusal) {out out' : List ℕ} {r : ℕ} → x ≡ Err q
      → Listed (refusal_line q) out out' r → Listed (typed_text text) out out' r
  unfolding reading_rule typed_text line_or
  unread_written q e listed =
      let is = was_refused (typed_refusal text (length room)) room _ refl (rw e at call) in
      rw (rw long at is.0) listed

  pub table_written : (n : ℕ) {out out' : List ℕ} {r : ℕ} → x ≡ Ok n
      → Listed (text_of 4 (take n after)) out out' r → Listed (typed_text text) out out' r
  unfolding typed_text line_or
  table_written n e listed = let has = table_read n e in rw (has.not_refused, ← has.front) listed
