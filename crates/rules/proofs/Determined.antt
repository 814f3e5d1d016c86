-- The contracts of `Reason::number` and `Reason::at` admit one answer each: they say what the answer is equal to.
use mathlib.Core.Path.{sym, ◌∙◌}
use Rattle.rules.proofs.OneAnswer.{OneAnswer}
use Rattle.rules.proofs.Reason.number.Kinds as number-kinds
use Rattle.rules.proofs.Reason.number.Reads as number-reads
use Rattle.rules.proofs.Reason.at.Kinds as at-kinds
use Rattle.rules.proofs.Reason.at.Reads as at-reads

pub number_determined : OneAnswer 0 number-kinds.ps number-kinds.r number-reads.Post
number_determined κs a x y s t p q = p ∙ sym q

pub at_determined : OneAnswer 0 at-kinds.ps at-kinds.r at-reads.Post
at_determined κs a x y s t p q = p ∙ sym q
