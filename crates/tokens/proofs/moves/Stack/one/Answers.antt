-- `tokens::moves::Stack::one` meets its contract.
use borrow.Author.Rules.{rules}
use mathlib.Core.Path.{refl}
use Rattle.tokens.proofs.MoveLaws.{opened_one}
use Rattle.tokens.proofs.moves.Stack.one.Goals as goal

pub returns : goal.returns
returns c = opened_one (search rules) (search rules) refl refl refl
