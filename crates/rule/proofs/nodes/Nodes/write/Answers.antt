-- `rule::nodes::Nodes::write` meets its contract.
use native.Mathlib.Omega.{arith}
use Rattle.rule.proofs.MakeLaws.{root_asks, root_is, written_is}
use Rattle.rule.proofs.nodes.Nodes.write.Goals as goal

pub root-a-requires : goal.root-a-requires
root-a-requires c = root_asks c.requires 0

pub root-b-requires : goal.root-b-requires
root-b-requires c = root_asks c.requires 1

pub root-c-requires : goal.root-c-requires
root-c-requires c = root_asks c.requires 2

pub returns : goal.returns
returns c =
    let W = c.requires in
    let a = root_is W 0 _ (omega arith) c.root-a.ensures in
    let b = root_is W 1 _ (omega arith) c.root-b.ensures in
    let d = root_is W 2 _ (omega arith) c.root-c.ensures in
    let t = c.words-p.ensures in
    written_is (rw (← a) t.0) (rw (← a, ← b) t.1) (rw (← d) t.2) c.depth_below-d.ensures (omega arith) c.put.ensures (omega arith) (omega arith)
