-- `table::node::Node::place` meets its contract: the row that it reads is the node's, and its words are placed one after the other.
use Rattle.std.proofs.Common.{sym, ◌∙◌}
use Rattle.table.proofs.RowLaws.{no_kind}
use Rattle.table.proofs.WordLaws.{unknown_walked, wrong_p, wrong_q, walked}
use Rattle.table.proofs.node.Node.place.Goals as goal
use Rattle.table.proofs.node.Node.place.Goals.{then-place_word, else-place_word}

pub returns-then-not-is_child : goal.returns-then-not-is_child
returns-then-not-is_child c =
    let node = c.args.self.now in
    unknown_walked _ _ (no_kind node.table.now node.number _ c.row_at-own.ensures c.is_child.ensures c.if-not-is_child.true) _ _

pub returns-then-place_word-2 : goal.returns-then-place_word-2
returns-then-place_word-2 c =
    let node = c.args.self.now in
    let known = no_kind node.table.now node.number _ c.row_at-own.ensures c.is_child.ensures c.if-not-is_child.false in
    elim c.if-place_word.branch [
      | then-place_word w ↦
          walked _ _ _ c.row_at-own.ensures known _ _ _ _ c.place_word.ensures _ w.place_word-then-place_word.ensures _ _
          w.if-place_word.true
          (sym w.value-is ∙ c.if-place_word-2.true)
          (rw w.marks-is at c.place_word-then-place_word-2.ensures)
      | else-place_word w ↦ cc
    ]

pub returns-else-place_word-2 : goal.returns-else-place_word-2
returns-else-place_word-2 c =
    let node = c.args.self.now in
    let known = no_kind node.table.now node.number _ c.row_at-own.ensures c.is_child.ensures c.if-not-is_child.false in
    elim c.if-place_word.branch [
      | then-place_word w ↦
          rw (c.if-place_word-2.false, w.marks-is)
          (wrong_q _ _ _ c.row_at-own.ensures known _ _ _ _ c.place_word.ensures _ w.place_word-then-place_word.ensures (sym w.value-is ∙ c.if-place_word-2.false))
      | else-place_word w ↦
          rw (c.if-place_word-2.false, w.marks-is)
          (wrong_p _ _ _ c.row_at-own.ensures known _ c.place_word.result _ _ c.place_word.ensures w.if-place_word.false)
    ]
