-- `tokens::digits::goes_on` meets its contract.
use Rattle.grammar.proofs.bytes.Pendings.{digit_is}
use Rattle.tokens.proofs.CodeLaws.{tested, test_passed, test_failed}
use Rattle.tokens.proofs.digits.goes_on.Goals as goal

pub overflow_sub-b : goal.overflow_sub-b
overflow_sub-b c = (digit_is _ (tested c.args.n _ c.is_digit.ensures c.if-is_digit-n.true).0).0

pub returns-then-is_digit-n : goal.returns-then-is_digit-n
returns-then-is_digit-n c =
    rw (c.from.ensures, c.from-then-is_digit-n.ensures, c.from-then-is_digit-n-2.ensures)
    (test_passed _ _ _ c.is_digit.ensures c.if-is_digit-n.true)

pub returns-else-is_digit-n : goal.returns-else-is_digit-n
returns-else-is_digit-n c = test_failed _ _ _ c.is_digit.ensures c.if-is_digit-n.false
