-- `tokens::slow_token` meets its contract.
use Rattle.tokens.proofs.TakenLaws.{taken_scanned}
use Rattle.tokens.proofs.slow_token.Goals as goal

pub returns : goal.returns
returns c = taken_scanned c.in_ok-t.ensures c.moving.ensures.numbered c.moving.ensures.kept c.locate.ensures
