-- `table::node::Node::child_fault` meets its contract.
use Rattle.std.proofs.Common.{refl, ◌∙◌}
use Rattle.table.proofs.RowLaws.{child_slot, other_slot}
use Rattle.table.proofs.WordLaws.{number_some, fault_5, child_told}
use Rattle.table.proofs.node.Node.child_fault.Goals as goal

pub returns-then-self-k : goal.returns-then-self-k
returns-then-self-k c = rw (child_slot c.args.slot c.requires) (fault_5 _ _ _ _ c.if-self-k.true)

pub returns : goal.returns
returns c =
    let other = other_slot c.args.self.now.table.now c.args.w _ c.known_row_at-own.ensures c.args.slot c.requires c.ne.ensures refl in
    number_some _ _ _ c.then_some.ensures ∙ rw (child_slot c.args.slot c.requires) (child_told _ _ _ _ c.if-self-k.false _ other)
