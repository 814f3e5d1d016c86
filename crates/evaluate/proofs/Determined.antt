-- The contract of each public function admits one answer.
use mathlib.Core.Path.{sym, ◌∙◌}
use Rattle.rules.proofs.OneAnswer.{OneAnswer}
use Rattle.evaluate.proofs.boolean.Kinds as boolean-kinds
use Rattle.evaluate.proofs.boolean.Reads as boolean
use Rattle.evaluate.proofs.value_of.Kinds as value-of-kinds
use Rattle.evaluate.proofs.value_of.Reads as value_of_lem
use Rattle.evaluate.proofs.truth_of.Kinds as truth-of-kinds
use Rattle.evaluate.proofs.truth_of.Reads as truth-of

pub boolean_determined : OneAnswer 3 boolean-kinds.ps boolean-kinds.r boolean.Post
boolean_determined κs a x y s t p q = p ∙ sym q

pub value_of_determined : OneAnswer 3 value-of-kinds.ps value-of-kinds.r value_of_lem.Post
value_of_determined κs a x y s t p q = p ∙ sym q

pub truth_of_determined : OneAnswer 3 truth-of-kinds.ps truth-of-kinds.r truth-of.Post
truth_of_determined κs a x y s t p q = p ∙ sym q
