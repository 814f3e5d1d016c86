-- `rule::nodes::Nodes::make_row` meets its contract.
use Rattle.rule.proofs.RowLaws.{Grouping}
use Rattle.rule.proofs.nodes.Nodes.make_row.Given as goal

abbrev pub invariant-loop : goal.invariant-loop
invariant-loop l = Grouping l.initial.self l.k l.self l.counter
