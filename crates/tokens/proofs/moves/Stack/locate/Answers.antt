-- `tokens::moves::Stack::locate` meets its contract.
use mathlib.Core.Path.{refl, ◌∙◌}
use Rattle.tokens.proofs.ArrayLaws.{located_seek, located_row}
use Rattle.tokens.proofs.moves.Stack.locate.Goals as goal

pub returns-then-s-eq6 : goal.returns-then-s-eq6
returns-then-s-eq6 c = located_seek _ _ _ _ _ c.if-s-eq6.true c.seek.ensures

pub returns-else-s-eq6 : goal.returns-else-s-eq6
returns-else-s-eq6 c =
    let row_of = c.row_of in
    located_row _ _ _ _ _ c.if-s-eq6.false refl (c.act_of.ensures ∙ row_of.ensures.is _)
