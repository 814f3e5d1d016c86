-- `tokens::tables::act_of` meets its contract.
use mathlib.Core.Path.{refl, ◌∙◌}
use Rattle.tokens.proofs.ArrayLaws.{act_read, act_past}
use Rattle.tokens.specs.Tables.{acts}
use Rattle.tokens.proofs.tables.act_of.Goals as goal

pub returns-then-i-lt1024 : goal.returns-then-i-lt1024
unfolding acts
returns-then-i-lt1024 c =
    c.from.ensures ∙ act_read (record { is = refl }) c.args.row c.args.kind

pub returns-else-i-lt1024 : goal.returns-else-i-lt1024
returns-else-i-lt1024 c = act_past _ _ c.if-i-lt1024.false
