-- `tokens::quick::are` meets its contract.
use mathlib.Core.Path.{sym, ◌∙◌}
use Rattle.tokens.proofs.SpelledLaws.{spelled_starts}
use Rattle.tokens.proofs.quick.are.Goals as goal

pub returns : goal.returns
returns g c = record { there = λ e. spelled_starts c.args.text.now c.args.at c.args.bytes.now c.requires (sym c.starts_with.ensures.value ∙ e) }
