-- The contracts of `check_code` and `admit` admit one answer each: they say what it is equal to. Nothing is lent to be altered.
use mathlib.Core.Path.{sym, ◌∙◌}
use Rattle.rules.proofs.OneAnswer.{OneAnswer}
use Rattle.instructions.proofs.check_code.Kinds as check-kinds
use Rattle.instructions.proofs.check_code.Reads as check-reads
use Rattle.instructions.proofs.admit.Kinds as admit-kinds
use Rattle.instructions.proofs.admit.Reads as admit-reads

pub check_code_determined : OneAnswer 2 check-kinds.ps check-kinds.r check-reads.Post
check_code_determined κs a x y s t p q = p ∙ sym q

pub admit_determined : OneAnswer 2 admit-kinds.ps admit-kinds.r admit-reads.Post
admit_determined κs a x y s t p q = p ∙ sym q
