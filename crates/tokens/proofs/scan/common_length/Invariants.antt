-- `tokens::scan::common_length` meets its contract. The loop's invariant: the first `j` bytes are the same.
use Rattle.tokens.proofs.CodeLaws.{Matching}
use Rattle.tokens.proofs.scan.common_length.Given as goal

abbrev pub invariant-loop-j : goal.invariant-loop-j
invariant-loop-j l = Matching l.text l.at l.k l.j
