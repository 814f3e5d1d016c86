-- `rule::is_blank` meets its contract.
use mathlib.Core.Path.{refl}
use Rattle.grammar.specs.Spelling.{is_blank}
use Rattle.rule.proofs.is_blank.Goals as goal

pub returns : goal.returns
unfolding is_blank
returns c = refl
