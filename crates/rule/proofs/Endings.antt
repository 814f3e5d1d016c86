-- How a call of `read_rule` ends, by the tests that it makes: refused 17, 1 or 9, refused 15, or done.
use mathlib.Core.Path.{◌≡◌}
use mathlib.Core.List.{List}
use Prim.Native.Nat.{ℕ, ◌*◌, ◌<◌, ◌≤◌}
use lib.Dec.{ltb}
use lib.ListN.{length, take}
use lib.Seq.{sets}
use borrow.Author.Tests.{lt-ltb, le-ltb}
use Rattle.rules.specs.Refusal.{refusal, refuse, ◌or_else◌}
use Rattle.rules.specs.Answer.{ended, unless_refused}
use Rattle.rules.specs.declared.Refusal.{Refusal}
use Rattle.grammar.specs.Written.{table_of}
use Rattle.grammar.specs.Typed.{table_answer}
use Rattle.grammar.specs.machine.Answer.{refusal_of, words_unless, table_of_read, typed_refusal, typed_words}
use Rattle.rule.specs.ReadingRule.{reading_rule}
use Rattle.rule.specs.declared.nodes.Nodes.{Nodes}
use Rattle.rule.specs.inside.Turns.{Reached, Refuses}
use Rattle.std.specs.Prelude.{Ok, Err}

module _ (text room : List ℕ) where
  pub ends_refused : {r : Refusal} → Refuses text r → ended (Err r) room ≡ reading_rule text room
  unfolding reading_rule unless_refused
  ends_refused R = let q = R.is (length room) in rw q

  module _ {Ns : Nodes} {count : ℕ} (R : Reached text Ns count) where
    answers : typed_refusal text (length room) ≡ refuse (ltb (length room) (4 * count)) 15 0
    unfolding typed_refusal refusal_of table_answer ◌or_else◌
    answers =
        let e = R.reads in
        let t = R.passes in
        let l = R.amount in
        rw (e, t, l)

    pub ends_short : length room < 4 * count → ended (Err (refusal 15 0)) room ≡ reading_rule text room
    unfolding reading_rule unless_refused refuse
    ends_short h = let l = lt-ltb (length room) (4 * count) h in rw (answers, l)

    words_are : 4 * count ≤ length room → typed_words text (length room) ≡ table_of R.rule
    unfolding typed_words words_unless table_of_read refuse
    words_are h = let l = le-ltb (length room) (4 * count) h in let e = R.reads in rw (answers, l, e)

    pub ends_done : {after : List ℕ} {n : ℕ} → 4 * count ≤ length room → after ≡ sets room 0 (take n Ns.words) → n ≡ 4 * count
        → ended (Ok n) after ≡ reading_rule text room
    unfolding reading_rule unless_refused refuse
    ends_done h e a =
        let l = le-ltb (length room) (4 * count) h in
        let w = words_are h in
        let t = R.words_are in
        let m = R.amount in
        rw (answers, l, w, m, e, a, t)
