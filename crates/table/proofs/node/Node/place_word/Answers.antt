-- `table::node::Node::place_word` meets its contract.
use Rattle.std.proofs.Common.{sym, ◌∙◌, arith}
use Rattle.rules.specs.Table.{child_in}
use Rattle.table.specs.inside.Sets.{bumps}
use Rattle.table.proofs.RowLaws.{child_slot, none_named}
use Rattle.table.proofs.WordLaws.{none_fine, child_lower}
use Rattle.table.proofs.node.Node.place_word.Goals as goal

pub mark-requires : goal.mark-requires
mark-requires c =
    let within = c.args.self.now.reached.within in
    let kid = child_slot c.args.slot (sym c.is_child.ensures ∙ c.if-is_child.true) in
    let right = sym c.word_fault.ensures ∙ none_fine _ (sym c.is_some.ensures ∙ c.if-is_some.false) in
    omega (arith, child_lower _ _ _ _ (rw kid at right), within.inside, within.few)

pub returns-then-is_child : goal.returns-then-is_child
unfolding bumps child_in
returns-then-is_child c =
    let kid = child_slot c.args.slot (sym c.is_child.ensures ∙ c.if-is_child.true) in
    let right = sym c.word_fault.ensures ∙ none_fine _ (sym c.is_some.ensures ∙ c.if-is_some.false) in
    record { right = rw right; marked = λ _. rw kid c.mark.ensures }

pub returns-else-is_child : goal.returns-else-is_child
unfolding bumps
returns-else-is_child c =
    let none = none_named c.args.slot c.args.w (sym c.is_child.ensures ∙ c.if-is_child.false) in
    let right = sym c.word_fault.ensures ∙ none_fine _ (sym c.is_some.ensures ∙ c.if-is_some.false) in
    record { right = rw right; marked = λ _. rw none }
