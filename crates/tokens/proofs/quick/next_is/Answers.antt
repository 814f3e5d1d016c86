-- `tokens::quick::next_is` meets its contract.
use Rattle.tokens.proofs.SpelledLaws.{next_past, next_is}
use Rattle.tokens.proofs.quick.next_is.Goals as goal

pub returns-then-text-at : goal.returns-then-text-at
returns-then-text-at c = next_past c.if-text-at.true

pub returns : goal.returns
returns c = next_is _ c.if-text-at.false
