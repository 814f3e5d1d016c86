-- The contract of each function admits one answer: it says what the answer is equal to.
use mathlib.Core.Path.{sym, ◌∙◌}
use Rattle.rules.proofs.OneAnswer.{OneAnswer}
use Rattle.bits.proofs.with.Kinds as with-kinds
use Rattle.bits.proofs.with.Reads as with-reads
use Rattle.bits.proofs.has.Kinds as has-kinds
use Rattle.bits.proofs.has.Reads as has-reads

pub with_determined : OneAnswer 0 with-kinds.ps with-kinds.r with-reads.Post
with_determined κs a x y s t p q = p ∙ sym q

pub has_determined : OneAnswer 0 has-kinds.ps has-kinds.r has-reads.Post
has_determined κs a x y s t p q = p ∙ sym q
