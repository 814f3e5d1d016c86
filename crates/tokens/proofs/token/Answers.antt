-- `tokens::token` meets its contract.
use Rattle.tokens.proofs.TakenLaws.{taken_quick}
use Rattle.tokens.proofs.token.Goals as goal

pub returns-then-place-ne0 : goal.returns-then-place-ne0
returns-then-place-ne0 c =
    let M = c.moving.ensures in
    taken_quick (rw c.in-Some.is at c.requires.1) M.numbered M.kept c.locate-place.ensures c.if-place-ne0.true
