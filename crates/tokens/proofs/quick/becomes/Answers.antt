-- `tokens::quick::becomes` meets its contract.
use mathlib.Core.Path.{refl}
use Rattle.tokens.proofs.QuickLaws.{quick_becomes}
use Rattle.tokens.proofs.quick.becomes.Goals as goal

pub returns-then-next_is : goal.returns-then-next_is
returns-then-next_is c =
    rw c.fixed.ensures (quick_becomes c.requires (c.next_is.ensures.there c.if-next_is.true) (refl, refl, refl))
