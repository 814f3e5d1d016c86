-- The contract of `check` admits one answer: it says what the answer is equal to. Nothing is lent to be altered.
use mathlib.Core.Path.{sym, ◌∙◌}
use Rattle.rules.proofs.OneAnswer.{OneAnswer}
use Rattle.table.proofs.check.Kinds.{ps, r}
use Rattle.table.proofs.check.Reads.{Post}

pub check_determined : OneAnswer 1 ps r Post
check_determined κs a x y s t p q = p ∙ sym q
