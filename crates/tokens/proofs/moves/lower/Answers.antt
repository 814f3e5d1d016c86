-- `tokens::moves::lower` meets its contract.
use Rattle.tokens.proofs.ArrayLaws.{lower_one}
use Rattle.tokens.proofs.moves.lower.Goals as goal

pub returns : goal.returns
returns c = rw c.saturating_sub.ensures lower_one
