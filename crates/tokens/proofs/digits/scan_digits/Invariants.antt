-- `tokens::digits::scan_digits` meets its contract. The loop's invariant: the digits up to `end` are the number n so far.
use Prim.Native.Nat.{◌-◌}
use lib.ListN.{length}
use Rattle.tokens.proofs.CodeLaws.{Counting}
use Rattle.tokens.proofs.digits.scan_digits.Given as goal

abbrev pub invariant-loop-end : goal.invariant-loop-end
invariant-loop-end l = Counting l.most l.text l.at l.end l.n

abbrev pub decreases-loop-end : goal.decreases-loop-end
decreases-loop-end l = length l.text - l.end
