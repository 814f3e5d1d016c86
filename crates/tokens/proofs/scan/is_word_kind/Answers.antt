-- `tokens::scan::is_word_kind` meets its contract.
use mathlib.Core.Path.{refl}
use Rattle.tokens.specs.Scan.{is_word_kind}
use Rattle.tokens.proofs.scan.is_word_kind.Goals as goal

pub returns : goal.returns
unfolding is_word_kind
returns c = refl
