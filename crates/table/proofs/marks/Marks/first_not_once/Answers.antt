-- `table::marks::Marks::first_not_once` meets its contract. The loop's invariant: every node of the words passed is named exactly once.
use Rattle.std.proofs.Common.{◌≡◌, ℕ, ◌<◌, Bool, true, false, ltb, get_or, refl, rules, arith}
use Rattle.std.specs.Prelude.{Option, MatchOption}
use Rattle.std.specs.Bool.{then_some}
use borrow.Author.Tests.{ltb-true, ltb-false}
use Rattle.table.specs.inside.Sets.{Marks, AllOnce, NotOnce, FirstNotOnce}
use Rattle.table.proofs.LowBit.{low_bit}
use Rattle.table.proofs.MarkLaws.{word_right, word_wrong}
use Rattle.table.proofs.marks.Marks.first_not_once.Goals as goal

-- the words that are read are the sets' words
told : (m v : Marks) (i a b wrong : ℕ) → v ≡ m → a ≡ get_or v.0 i 0 → b ≡ get_or v.1 i 0 → NotOnce a b wrong → NotOnce (get_or m.0 i 0) (get_or m.1 i 0) wrong
told m v i a b wrong e f g h = rw (← e, ← f, ← g) h

-- the first node is below the end, or every node below the end is named once
before_end : (m : Marks) (k end : ℕ) (r : Option ℕ) → FirstNotOnce m k → r ≡ then_some (ltb k end) k
    → MatchOption r (AllOnce m end) (λ k. (k < end) × FirstNotOnce m k)
before_end m k end r first e = by (ltb k end) refl
  where
    by : (b : Bool) → ltb k end ≡ b → MatchOption r (AllOnce m end) (λ k. (k < end) × FirstNotOnce m k)
    by true q = rw (e, q) (ltb-true k end q, first)
    by false q = let past = ltb-false k end q in rw (e, q) (λ j h. first.once j (omega arith))

pub returns-then-wrong-ne0 : goal.returns-then-wrong-ne0
returns-then-wrong-ne0 c =
    let once = told c.args.self.now _ _ _ _ _ c.self.view_is c.word.ensures c.word-in-loop-i.ensures c.not_once-wrong.ensures in
    let low = low_bit c.not_once-wrong.result c.if-wrong-ne0.true (search rules) in
    before_end _ _ _ _ (word_wrong _ _ _ once c.loop-i.invariant _ low c.loop-i-test.true) c.then_some.ensures

pub loop-i-preserved : goal.loop-i-preserved
loop-i-preserved c =
    let once = told c.args.self.now _ _ _ _ _ c.self.view_is c.word.ensures c.word-in-loop-i.ensures c.not_once-wrong.ensures in
    word_right _ _ _ once c.loop-i.invariant c.if-wrong-ne0.false
