-- `rule::nodes::Nodes::close_down` meets its contract.
use Rattle.rule.proofs.TurnLaws.{Lowers}
use Rattle.rule.proofs.nodes.Nodes.close_down.Given as goal

abbrev pub invariant-loop-i : goal.invariant-loop-i
invariant-loop-i l = Lowers l.initial.self l.stack l.top l.to l.self l.i
