-- `table::node::Node::fault` meets its contract.
use Rattle.std.proofs.Common.{arith}
use Rattle.table.proofs.RowLaws.{no_kind}
use Rattle.table.proofs.WordLaws.{node_2, node_words}
use Rattle.table.proofs.node.Node.fault.Goals as goal

pub returns-then-not-is_child : goal.returns-then-not-is_child
returns-then-not-is_child c =
    let node = c.args.self.now in
    node_2 _ _ (no_kind node.table.now node.number _ c.row_at-own.ensures c.is_child.ensures c.if-not-is_child.true)

pub returns : goal.returns
returns c =
    let node = c.args.self.now in
    let known = no_kind node.table.now node.number _ c.row_at-own.ensures c.is_child.ensures c.if-not-is_child.false in
    let words = node_words node.table.now node.number _ c.row_at-own.ensures known in
    omega (arith, words, c.lower-2.ensures, c.lower.ensures, c.word_fault-p.ensures, c.word_fault-q.ensures, c.word_fault-r.ensures)
