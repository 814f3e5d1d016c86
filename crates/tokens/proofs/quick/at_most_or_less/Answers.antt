-- `tokens::quick::at_most_or_less` meets its contract.
use mathlib.Core.Path.{refl}
use Rattle.tokens.proofs.QuickLaws.{quick_at_most, quick_less}
use Rattle.tokens.proofs.quick.at_most_or_less.Goals as goal

pub returns-then-next_is : goal.returns-then-next_is
returns-then-next_is c =
    rw c.fixed.ensures (quick_at_most c.requires (c.next_is.ensures.there c.if-next_is.true) (refl, refl, refl))

pub returns : goal.returns
returns c =
    rw c.fixed-2.ensures (quick_less c.requires c.next_is.ensures c.if-next_is.false (refl, refl, refl))
