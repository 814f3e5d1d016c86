-- `tokens::quick::else_or_end` meets its contract.
use borrow.Author.Rules.{rules}
use Rattle.tokens.proofs.QuickLaws.{else_word, end_word, begun}
use Rattle.tokens.proofs.quick.else_or_end.Goals as goal

pub word-requires : goal.word-requires
word-requires c = (search rules, begun c.requires else_word)

pub word-requires-2 : goal.word-requires-2
word-requires-2 c = (search rules, begun c.requires end_word)
