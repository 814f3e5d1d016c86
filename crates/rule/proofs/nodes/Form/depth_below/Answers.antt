-- `rule::nodes::Form::depth_below` meets its contract.
use borrow.Author.Rules.{rules}
use Rattle.rule.specs.inside.Nodes.{below}
use Rattle.rule.proofs.nodes.Form.depth_below.Goals as goal

pub returns-in-Leaf : goal.returns-in-Leaf
unfolding below
returns-in-Leaf c = rw c.in-Leaf.is

pub returns-in-One : goal.returns-in-One
unfolding below
returns-in-One c = search rules

pub returns-in-Two : goal.returns-in-Two
unfolding below
returns-in-Two c = rw c.in-Two.is c.max.ensures

pub returns-in-Three : goal.returns-in-Three
unfolding below
returns-in-Three c = rw (c.in-Three.is, ← c.max-in-Three.ensures) c.max-in-Three-2.ensures
