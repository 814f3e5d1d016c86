-- `is_line` meets its contract. The loop's invariant: `good` says whether each byte passed is a digit.
use Rattle.std.proofs.Common.{◌≡◌, get_or}
use Rattle.rules.specs.Lists.{every}
use Rattle.rules.specs.Text.{is_digit}
use Rattle.reading.proofs.is_line.Given as goal

abbrev pub invariant-loop-b : goal.invariant-loop-b
invariant-loop-b l = l.good ≡ every (λ i. is_digit (get_or l.line i 0)) l.b-index
