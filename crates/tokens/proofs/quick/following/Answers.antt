-- `tokens::quick::following` meets its contract.
use mathlib.Core.Path.{refl}
use borrow.Author.Rules.{rules}
use Rattle.tokens.proofs.QuickLaws.{class_at, then_word, do_word, and_word, begun, quick_alone}
use Rattle.tokens.proofs.quick.following.Goals as goal

pub returns-then-class-gt63 : goal.returns-then-class-gt63
returns-then-class-gt63 c =
    rw c.fixed.ensures (quick_alone c.requires c.if-class-gt63.true (refl, refl, refl))

pub word-requires : goal.word-requires
word-requires c = (search rules, begun (class_at c.requires c.in-34.is) then_word)

pub word-requires-in-38 : goal.word-requires-in-38
word-requires-in-38 c = (search rules, begun (class_at c.requires c.in-38.is) do_word)

pub word-requires-in-41 : goal.word-requires-in-41
word-requires-in-41 c = (search rules, begun (class_at c.requires c.in-41.is) and_word)
