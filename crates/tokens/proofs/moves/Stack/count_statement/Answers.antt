-- `tokens::moves::Stack::count_statement` meets its contract.
use borrow.Author.Rules.{rules}
use Rattle.tokens.proofs.ArrayLaws.{counted_empty, counted_one}
use Rattle.tokens.proofs.moves.Stack.count_statement.Goals as goal

pub returns-then-top-eq0-clause-counted : goal.returns-then-top-eq0-clause-counted
returns-then-top-eq0-clause-counted c = counted_empty c.if-top-eq0.true

pub returns-clause-counted : goal.returns-clause-counted
returns-clause-counted c =
    counted_one c.if-top-eq0.false c.requires (search rules) (search rules)
