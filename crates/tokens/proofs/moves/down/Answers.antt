-- `tokens::moves::down` meets its contract.
use mathlib.Core.Path.{◌∙◌}
use Rattle.tokens.proofs.MoveLaws.{level_less}
use Rattle.tokens.proofs.moves.down.Goals as goal

pub returns : goal.returns
returns c = c.saturating_sub.ensures ∙ level_less c.args.left
