-- `rule::nodes::Nodes::make_row` meets its contract.
use Rattle.rule.proofs.RowLaws.{grouping_starts, grouping_makes, grouping_on, grouping_ends}
use Rattle.rule.proofs.nodes.Nodes.make_row.Goals as goal

pub loop-init : goal.loop-init
loop-init c = grouping_starts c.requires

pub make-requires : goal.make-requires
make-requires c = grouping_makes c.loop.invariant c.requires c.loop-test.true

pub loop-preserved : goal.loop-preserved
loop-preserved c = grouping_on c.loop.invariant c.loop-test.true c.make.ensures

pub returns : goal.returns
returns c = grouping_ends c.loop.invariant c.loop-test.false
