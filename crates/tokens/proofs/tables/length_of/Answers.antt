-- `tokens::tables::length_of` meets its contract.
use mathlib.Core.Path.{refl, ◌∙◌}
use Rattle.tokens.proofs.QuickLaws.{length_read}
use Rattle.tokens.specs.Tables.{spellings}
use Rattle.tokens.proofs.tables.length_of.Goals as goal

pub returns : goal.returns
unfolding spellings
returns c = c.from.ensures ∙ length_read (record { is = refl }) _
