-- `rule::nodes::Form::words` meets its contract.
use mathlib.Core.Path.{refl}
use Rattle.rule.specs.inside.Nodes.{first, second, third}
use Rattle.rule.proofs.nodes.Form.words.Goals as goal

pub returns-in-Leaf : goal.returns-in-Leaf
unfolding first second third
returns-in-Leaf c = rw c.in-Leaf.is (refl, refl, refl)

pub returns-in-One : goal.returns-in-One
unfolding first second third
returns-in-One c = rw c.in-One.is (c.from.ensures, refl, refl)

pub returns-in-Two : goal.returns-in-Two
unfolding first second third
returns-in-Two c = rw c.in-Two.is (c.from-in-Two.ensures, c.from-in-Two-2.ensures, refl)

pub returns-in-Three : goal.returns-in-Three
unfolding first second third
returns-in-Three c = rw c.in-Three.is (c.from-in-Three.ensures, c.from-in-Three-2.ensures, c.from-in-Three-3.ensures)

pub returns-in-Numbered : goal.returns-in-Numbered
unfolding first second third
returns-in-Numbered c = rw c.in-Numbered.is (refl, c.from-in-Numbered.ensures, refl)
