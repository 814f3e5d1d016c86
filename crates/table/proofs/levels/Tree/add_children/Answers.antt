-- `table::levels::Tree::add_children` meets its contract: the children that the three words name are added one after the other.
use Rattle.std.proofs.Common.{arith}
use Rattle.table.proofs.DepthLaws.{fits}
use Rattle.table.proofs.WordLaws.{children_read, child_filled, words_filled}
use Rattle.table.proofs.AddLaws.{adds_three}
use Rattle.table.proofs.levels.Tree.add_children.Goals as goal

pub add_child-requires : goal.add_child-requires
add_child-requires c = λ k e.
    let tree = c.args.self.now in
    let filled = words_filled _ _ _ c.known_row_at-p.ensures (fits tree.table.now tree.sound c.args.n c.requires) in
    omega (arith, child_filled _ _ _ _ k e filled.0, c.requires, tree.few)

pub add_child-requires-2 : goal.add_child-requires-2
add_child-requires-2 c = λ k e.
    let tree = c.args.self.now in
    let filled = words_filled _ _ _ c.known_row_at-p.ensures (fits tree.table.now tree.sound c.args.n c.requires) in
    omega (arith, child_filled _ _ _ _ k e filled.1, c.requires, tree.few)

pub add_child-requires-3 : goal.add_child-requires-3
add_child-requires-3 c = λ k e.
    let tree = c.args.self.now in
    let filled = words_filled _ _ _ c.known_row_at-p.ensures (fits tree.table.now tree.sound c.args.n c.requires) in
    omega (arith, child_filled _ _ _ _ k e filled.2, c.requires, tree.few)

pub returns : goal.returns
returns c =
    rw (children_read c.args.self.now.table.now c.args.n _ c.known_row_at-p.ensures)
    (adds_three _ _ _ _ _ _ _ c.add_child.ensures c.add_child-2.ensures c.add_child-3.ensures)
