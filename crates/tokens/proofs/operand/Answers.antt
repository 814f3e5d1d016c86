-- `tokens::operand` meets its contract.
use mathlib.Core.Path.{sym}
use native.Mathlib.Omega.{arith}
use Rattle.std.proofs.lemmas.Option.{IfSome_then}
use Rattle.tokens.proofs.QuickLaws.{class_at, digit_class, v_class, held_number, held_variable, held_as}
use Rattle.tokens.proofs.operand.Goals as goal

pub number-requires : goal.number-requires
number-requires c = digit_class (class_at c.requires c.in-59.is)

pub variable-requires : goal.variable-requires
variable-requires c = v_class (class_at c.requires c.in-60.is)

pub returns-in-59 : goal.returns-in-59
returns-in-59 c =
    let k = c.number.ensures.0 in
    (held_as (held_number c.number.ensures.1) (sym k), omega arith, omega arith)

pub returns-in-60 : goal.returns-in-60
returns-in-60 c =
    IfSome_then c.variable.result c.variable.ensures.there
    (λ t h. let k = h.0 in
    (held_as (held_variable (v_class (class_at c.requires c.in-60.is)) h.1) (sym k), omega arith, omega arith))
