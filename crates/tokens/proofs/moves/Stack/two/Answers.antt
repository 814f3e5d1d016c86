-- `tokens::moves::Stack::two` meets its contract.
use borrow.Author.Rules.{rules}
use mathlib.Core.Path.{refl}
use Rattle.tokens.proofs.MoveLaws.{opened_two}
use Rattle.tokens.proofs.moves.Stack.two.Goals as goal

pub returns : goal.returns
returns c = opened_two (search rules) (search rules) refl refl refl
