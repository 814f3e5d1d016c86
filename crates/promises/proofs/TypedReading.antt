-- What reading a typed rule answers, by its definition: done with the words of its table, or refused.
use mathlib.Core.Path.{◌≡◌, refl, sym, ap, ap₂, ◌∙◌}
use mathlib.Core.Bool.{Bool, true, false}
use mathlib.Core.List.{List}
use mathlib.Core.Option.{Option, none, some}
use Prim.Native.Nat.{ℕ, ◌<◌, ◌≤◌}
use native.Mathlib.Omega.{arith}
use lib.Dec.{ltb}
use lib.ListN.{length}
use lib.Seq.{sets}
use borrow.Author.Tests.{ltb-true, ltb-false, le-ltb}
use Rattle.rules.specs.Table.{Accepted}
use Rattle.rules.specs.Refusal.{number_of, reason_of, placed, refusal, refuse, ◌or_else◌}
use Rattle.rules.specs.Answer.{ended, text_words, Answer}
use Rattle.rules.specs.declared.Refusal.{Refusal}
use Rattle.rules.proofs.NumberLaws.{reason_back}
use Rattle.rules.proofs.ListLaws.{refuse_none, or_else_none, take_sets, drop_sets}
use Rattle.rules.proofs.EndedLaws.{answer_is, ends_unrefused, was_refused, text_done}
use Rattle.grammar.specs.Rule.{Rule}
use Rattle.grammar.specs.Layout.{InGrammar}
use Rattle.grammar.specs.Written.{rule_node, size, depth, table_of}
use Rattle.grammar.specs.Typed.{table_answer, Answers, outside, refused, accepted}
use Rattle.grammar.specs.machine.Answer.{typed_refusal, typed_words}
use Rattle.grammar.proofs.bytes.OneReading.{one_reading}
use Rattle.grammar.proofs.table.Answering.{answers, one_answer}
use Rattle.grammar.proofs.table.TypedRefusals.{typed_refusal_lem}
use Rattle.rule.specs.ReadingRule.{reading_rule}
use Rattle.promises.specs.Typed.{Accepts, Refuses, many, deep, short}
use Rattle.promises.specs.Typed as typed
use Rattle.std.specs.Prelude.{Ok, Err}

-- of a text that is in the grammar: its table passes 01 and fits the room, or it is refused 1, 9 or 15
data Weighed (p : Rule) (room : ℕ) : Option Refusal → Type 0 where
  fits_all : size (rule_node p) ≤ 1024 → depth (rule_node p) ≤ 256 → length (table_of p) ≤ room → Weighed p room none
  too_many : 1024 < size (rule_node p) → Weighed p room (some (refusal 1 0))
  too_deep : size (rule_node p) ≤ 1024 → 256 < depth (rule_node p) → Weighed p room (some (refusal 9 0))
  too_long : size (rule_node p) ≤ 1024 → depth (rule_node p) ≤ 256 → room < length (table_of p) → Weighed p room (some (refusal 15 0))

by_tests : (p : Rule) (room : ℕ) (b c d : Bool) → ltb 1024 (size (rule_node p)) ≡ b → ltb 256 (depth (rule_node p)) ≡ c
    → ltb room (length (table_of p)) ≡ d → Weighed p room ((refuse b 1 0 or_else refuse c 9 0) or_else refuse d 15 0)
unfolding refuse ◌or_else◌
by_tests p room true c d e f g = too_many (ltb-true _ _ e)
by_tests p room false true d e f g = too_deep (ltb-false _ _ e) (ltb-true _ _ f)
by_tests p room false false true e f g = too_long (ltb-false _ _ e) (ltb-false _ _ f) (ltb-true _ _ g)
by_tests p room false false false e f g = fits_all (ltb-false _ _ e) (ltb-false _ _ f) (ltb-false _ _ g)

weighed : {text : List ℕ} {p : Rule} → InGrammar text p → (room : ℕ) → Weighed p room (table_answer (table_of p) room)
unfolding table_answer
weighed {text} {p} g room = rw (typed_refusal_lem g) (by_tests p room _ _ _ refl refl refl)

never : {r : Refusal} → some r ≡ none → ⊥
never {r} e = let z : ◌≡◌ {A = ℕ} 0 1 = cc in omega arith

some_same : {r q : Refusal} → some r ≡ some q → r ≡ q
some_same e = cc

module _ (text room after : List ℕ) where
  by_answer : {o : Option Refusal} {ws : List ℕ} → Answers text (length room) o ws → o ≡ none
      → (n : ℕ) → n ≡ length ws → after ≡ sets room 0 ws → Accepts text room n after
  unfolding table_answer
  by_answer (outside not_in k) e n words left = absurd (never e)
  by_answer (refused g q) e n words left = absurd (never e)
  by_answer (accepted {r = p} g q) e n words left =
      let both = or_else_none _ _ q in
      let enough : length (table_of p) ≤ length room = ltb-false _ _ (refuse_none _ 15 0 both.1) in
      record {
        rule = p;
        typed = g;
        only = λ r h. one_reading text h g;
        passes = both.0;
        words = words;
        fits = rw words enough;
        front = rw (words, left) (take_sets (table_of p) room enough);
        rest = rw (words, left) (drop_sets (table_of p) room enough);
      }

  pub read_done : (n : ℕ) → ended (Ok n) after ≡ reading_rule text room → Accepts text room n after
  unfolding reading_rule
  read_done n e =
      let is = text_done _ _ n room (typed_words text (length room)) after e in
      by_answer (answers text (length room)) is.0 n is.1 is.2

  -- and it is done where it may be
  pub read_unrefused : {p : Rule} → InGrammar text p → Accepted (table_of p) → length (table_of p) ≤ length room
      → (x : Answer ℕ) → ended x after ≡ reading_rule text room → x ≡ Ok (length (table_of p))
  unfolding reading_rule table_answer refuse ◌or_else◌
  read_unrefused {p} g ok enough x e =
      let nothing : table_answer (table_of p) (length room) ≡ none = rw (ok, le-ltb (length room) (length (table_of p)) enough) in
      let same = one_answer text (length room) (answers text (length room)) (accepted g nothing) in
      let is : ended x after ≡ ended (Ok (length (table_of p))) (sets room 0 (table_of p)) =
      e ∙ ends_unrefused _ _ _ same.0 ∙ rw same.1 refl in
      answer_is is

  refusing : (p : Rule) → InGrammar text p → {o : Option Refusal} {q : Refusal} → Weighed p (length room) o → o ≡ some q → Refuses text (length room) q
  refusing p g (fits_all few shallow enough) e = absurd (never (sym e))
  refusing p g {q = q} (too_many m) e = let same : q ≡ refusal 1 0 = cc in rw same (many g m)
  refusing p g {q = q} (too_deep m d) e = let same : q ≡ refusal 9 0 = cc in rw same (deep g m d)
  refusing p g {q = q} (too_long m d l) e = let same : q ≡ refusal 15 0 = cc in rw same (short g m d l)

  refused_by : {o : Option Refusal} {ws : List ℕ} {q : Refusal} → Answers text (length room) o ws → o ≡ some q → Refuses text (length room) q
  refused_by {q = q} (outside not_in k) e = rw (sym (some_same e)) (typed.outside not_in k)
  refused_by (refused {r = p} g r) e = refusing p g (weighed g (length room)) (r ∙ e)
  refused_by (accepted g r) e = absurd (never (sym e))

  pub read_refused : (q : Refusal) → ended (Err q) after ≡ reading_rule text room → Refuses text (length room) q × (after ≡ room)
  unfolding reading_rule
  read_refused q e =
      let is = was_refused (typed_refusal text (length room)) room _ refl e in
      (refused_by (answers text (length room)) is.0, is.1)

-- ---- told in words

-- an answer is told as no other
pub text_told : (x y : Answer ℕ) → text_words x ≡ text_words y → x ≡ y
unfolding text_words
text_told (Ok n) (Ok m) e = let same : n ≡ m = cc in rw same
text_told (Ok n) (Err r) e = let z : ◌≡◌ {A = ℕ} 0 3 = cc in absurd (omega arith)
text_told (Err q) (Ok m) e = let z : ◌≡◌ {A = ℕ} 0 3 = cc in absurd (omega arith)
text_told (Err q) (Err r) e =
    let number : number_of q.reason ≡ number_of r.reason = cc in
    let place : q.place ≡ r.place = cc in
    let reason : q.reason ≡ r.reason = sym (reason_back q.reason) ∙ ap reason_of number ∙ reason_back r.reason in
    ap₂ (λ n k. Err (placed n k)) reason place
