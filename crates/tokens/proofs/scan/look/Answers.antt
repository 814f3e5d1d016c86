-- `tokens::scan::look` meets its contract. The loop's invariant: of the tokens below `k`, `f` has the best.
use borrow.Author.Rules.{rules}
use Rattle.tokens.proofs.CodeLaws.{look_ended}
use Rattle.tokens.proofs.scan.look.Goals as goal

pub returns : goal.returns
returns c = look_ended _ _ _ _ _ _ c.loop-k.invariant.0 c.loop-k.invariant.1 (search rules) (search rules)
