-- `tokens::tables::letter_of` meets its contract.
use mathlib.Core.Path.{refl}
use Rattle.tokens.proofs.QuickLaws.{spelling_read}
use Rattle.tokens.specs.Tables.{spellings}
use Rattle.tokens.proofs.tables.letter_of.Goals as goal

pub returns : goal.returns
unfolding spellings
returns c = spelling_read (record { is = refl }) _ _
