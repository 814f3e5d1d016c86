-- `rule::nodes::Form::arity` meets its contract.
use borrow.Author.Rules.{rules}
use Rattle.tokens.specs.Flat.{arity}
use Rattle.rule.proofs.nodes.Form.arity.Goals as goal

pub returns-in-Leaf : goal.returns-in-Leaf
unfolding arity
returns-in-Leaf c = rw c.in-Leaf.is

pub returns-in-One : goal.returns-in-One
unfolding arity
returns-in-One c = search rules

pub returns-in-Two : goal.returns-in-Two
unfolding arity
returns-in-Two c = rw c.in-Two.is

pub returns-in-Three : goal.returns-in-Three
unfolding arity
returns-in-Three c = rw c.in-Three.is
