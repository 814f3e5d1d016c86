-- `table::levels::Nodes::add_child` meets its contract.
use Rattle.std.proofs.Common.{sym, ◌∙◌}
use Rattle.rules.specs.Table.{child_in}
use Rattle.table.specs.inside.Sets.{adds}
use Rattle.table.proofs.RowLaws.{child_slot, none_named}
use Rattle.table.proofs.levels.Nodes.add_child.Goals as goal

pub add-requires : goal.add-requires
add-requires c = c.requires _ (child_slot c.args.slot (sym c.is_child.ensures ∙ c.if-is_child.true))

pub returns-then-is_child : goal.returns-then-is_child
unfolding adds child_in
returns-then-is_child c = rw (child_slot c.args.slot (sym c.is_child.ensures ∙ c.if-is_child.true)) c.add.ensures

pub returns-else-is_child : goal.returns-else-is_child
unfolding adds
returns-else-is_child c = rw (none_named c.args.slot c.args.w (sym c.is_child.ensures ∙ c.if-is_child.false))
