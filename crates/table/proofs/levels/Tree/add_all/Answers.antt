-- `table::levels::Tree::add_all` meets its contract. The loop's invariant: with the children of the nodes that are left, the level is as
-- it will be.
use Rattle.std.proofs.Common.{sym, ◌∙◌, rules}
use Rattle.bits.proofs.BitLaws.{without_keeps}
use Rattle.table.proofs.LowBit.{low_bit}
use Rattle.table.proofs.AddLaws.{adds_none, adds_lowest}
use Rattle.table.proofs.levels.Tree.add_all.Goals as goal

pub add_children-requires : goal.add_children-requires
add_children-requires c =
    let low = low_bit c.loop-left.left c.loop-left-test.true (search rules) in
    c.loop-left.invariant.0 _ low.short low.set

pub loop-left-preserved : goal.loop-left-preserved
loop-left-preserved c =
    let low = low_bit c.loop-left.left c.loop-left-test.true (search rules) in (
      λ j h e. c.loop-left.invariant.0 j h (without_keeps low j e),
      adds_lowest _ _ _ c.loop-left.left _ low _ c.add_children.ensures ∙ c.loop-left.invariant.1,
    )

pub returns : goal.returns
returns c =
    sym (adds_none c.args.self.now.table.now c.args.i c.loop-left.level c.loop-left.left c.loop-left-test.false) ∙ c.loop-left.invariant.1
