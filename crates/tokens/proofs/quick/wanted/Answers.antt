-- `tokens::quick::wanted` meets its contract.
use mathlib.Core.Path.{refl, sym}
use native.Mathlib.Omega.{arith}
use borrow.Author.Rules.{rules}
use Rattle.tokens.proofs.QuickLaws.{class_at, digit_class, v_class, skip_word, if_word, true_word, while_word, choose_word, not_word, false_word}
use Rattle.tokens.proofs.QuickLaws.{begun, held_number, held_variable, held_as, quick_alone}
use Rattle.tokens.proofs.quick.wanted.Goals as goal

pub word-requires : goal.word-requires
word-requires c = (search rules, begun (class_at c.requires c.in-32.is) skip_word)

pub word-requires-in-33 : goal.word-requires-in-33
word-requires-in-33 c = (search rules, begun (class_at c.requires c.in-33.is) if_word)

pub word-requires-in-34 : goal.word-requires-in-34
word-requires-in-34 c = (search rules, begun (class_at c.requires c.in-34.is) true_word)

pub word-requires-in-37 : goal.word-requires-in-37
word-requires-in-37 c = (search rules, begun (class_at c.requires c.in-37.is) while_word)

pub word-requires-in-39 : goal.word-requires-in-39
word-requires-in-39 c = (search rules, begun (class_at c.requires c.in-39.is) choose_word)

pub word-requires-in-40 : goal.word-requires-in-40
word-requires-in-40 c = (search rules, begun (class_at c.requires c.in-40.is) not_word)

pub word-requires-in-58 : goal.word-requires-in-58
word-requires-in-58 c = (search rules, begun (class_at c.requires c.in-58.is) false_word)

pub number-requires : goal.number-requires
number-requires c = digit_class (class_at c.requires c.in-59.is)

pub parted-requires : goal.parted-requires
parted-requires c = held_as (held_number c.number.ensures.1) (sym c.number.ensures.0)

pub variable-requires : goal.variable-requires
variable-requires c = v_class (class_at c.requires c.in-60.is)

pub parted-requires-in-60 : goal.parted-requires-in-60
parted-requires-in-60 c =
    let found = c.in_ok-variable-in-60.ensures.there in
    held_as (held_variable (v_class (class_at c.requires c.in-60.is)) found.1) (sym found.0)

pub returns-in-77 : goal.returns-in-77
returns-in-77 c = rw c.fixed.ensures (quick_alone (class_at c.requires c.in-77.is) (omega arith) (refl, refl, refl))

pub returns-in-79 : goal.returns-in-79
returns-in-79 c = rw c.fixed-in-79.ensures (quick_alone (class_at c.requires c.in-79.is) (omega arith) (refl, refl, refl))
