-- `rule::nodes::Nodes::close_down` meets its contract.
use mathlib.Core.Path.{refl}
use Rattle.rule.proofs.TurnLaws.{lowers_starts, lowers_closes, lowers_on, lowers_ends}
use Rattle.rule.proofs.nodes.Nodes.close_down.Goals as goal

pub loop-i-init : goal.loop-i-init
loop-i-init c = lowers_starts c.requires

pub close-requires : goal.close-requires
close-requires c = let l = c.loop-i in lowers_closes c.requires l.invariant c.loop-i-test.true l.auto.i refl

pub loop-i-preserved : goal.loop-i-preserved
loop-i-preserved c = let l = c.loop-i in lowers_on c.requires l.invariant c.loop-i-test.true l.auto.i refl c.close.ensures

pub returns : goal.returns
returns c = lowers_ends c.requires c.loop-i.invariant c.loop-i-test.false
