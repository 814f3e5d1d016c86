-- `table::levels::Tree::pass` meets its contract. The loop's invariant: the words that are left hold nodes of the level, the others nodes
-- of the next.
use Rattle.std.proofs.Common.{rules}
use Rattle.table.proofs.LowBit.{low_bit}
use Rattle.table.proofs.LevelLaws.{word_inside, word_passed, all_passed}
use Rattle.table.proofs.levels.Tree.pass.Goals as goal

pub add_all-requires : goal.add_all-requires
add_all-requires c =
    let low = low_bit c.loop-left.left c.loop-left-test.true (search rules) in
    let passing = rw (← c.level-in-loop-left.view_is) at (c.loop-left.invariant c.requires.0 c.requires.1) in
    (low.short, rw c.take_word-taken.ensures.taken (word_inside passing _))

pub loop-left-preserved : goal.loop-left-preserved
loop-left-preserved c = λ h l.
    let low = low_bit c.loop-left.left c.loop-left-test.true (search rules) in
    let passing = rw (← c.level-in-loop-left.view_is) at (c.loop-left.invariant h l) in
    word_passed _ c.args.self.now.sound h _ c.loop-left.left _ _ passing low _
    (rw (← c.take_word-taken.ensures.taken, ← c.take_word-taken.ensures.left) c.add_all.ensures)

pub returns : goal.returns
returns c = λ h l. all_passed (rw c.loop-left-test.false at (c.loop-left.invariant h l))
