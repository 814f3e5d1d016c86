-- `tokens::tables::class_of` meets its contract.
use mathlib.Core.Path.{refl}
use borrow.Author.Rules.{rules}
use Rattle.tokens.proofs.QuickLaws.{class_read}
use Rattle.tokens.specs.Tables.{classes}
use Rattle.tokens.proofs.tables.class_of.Goals as goal

pub returns : goal.returns
unfolding classes
returns c = cc (class_read (record { is = refl }) c.args.b (search rules))
