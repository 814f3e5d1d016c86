-- `tokens::digits::is_digit` meets its contract.
use Rattle.grammar.specs.Spelling.{is_digit}
use Rattle.tokens.proofs.digits.is_digit.Goals as goal

pub returns : goal.returns
unfolding is_digit
returns c = c.is_ascii_digit.ensures.value
