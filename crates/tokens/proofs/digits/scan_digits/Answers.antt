-- `tokens::digits::scan_digits` meets its contract. The loop's invariant: the digits up to `end` are the number n so far.
use mathlib.Core.Path.{sym, ◌∙◌}
use native.Mathlib.Omega.{arith}
use borrow.Author.Rules.{rules}
use Rattle.grammar.proofs.bytes.Pendings.{digit_is, longer_is}
use Rattle.tokens.proofs.CodeLaws.{first_digit, next_digit}
use Rattle.tokens.proofs.digits.scan_digits.Goals as goal

pub overflow_sub-text : goal.overflow_sub-text
overflow_sub-text c = (digit_is _ c.requires.1).0

pub loop-end-init : goal.loop-end-init
loop-end-init c = rw c.from-n.ensures (first_digit _ _ _ c.requires.0 c.requires.1)

pub overflow_mul-n : goal.overflow_mul-n
overflow_mul-n c = let k = longer_is _ _ _ (sym c.goes_on.ensures ∙ c.if-goes_on.true) in omega arith

pub overflow_sub-text-in-loop-end : goal.overflow_sub-text-in-loop-end
overflow_sub-text-in-loop-end c = (digit_is _ (longer_is _ _ _ (sym c.goes_on.ensures ∙ c.if-goes_on.true)).0).0

pub overflow_add-n : goal.overflow_add-n
overflow_add-n c = let k = longer_is _ _ _ (sym c.goes_on.ensures ∙ c.if-goes_on.true) in omega arith

pub loop-end-preserved : goal.loop-end-preserved
loop-end-preserved c =
    rw c.from.ensures
    (next_digit _ _ _ _ _ (search rules) c.loop-end.invariant c.loop-end-test.true
    (sym c.goes_on.ensures ∙ c.if-goes_on.true))
