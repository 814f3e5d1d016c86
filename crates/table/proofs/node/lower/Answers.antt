-- `table::node::lower` meets its contract: a reason's number is below that of no reason.
use mathlib.Core.Path.{ap}
use native.Mathlib.Omega.{arith}
use Rattle.table.specs.inside.Steps.{number_in}
use Rattle.table.proofs.WordLaws.{number_most}
use Rattle.table.proofs.node.lower.Goals as goal

pub returns-then-number : goal.returns-then-number
returns-then-number c =
    let some = c.in-Some-Some in
    omega (arith, ap number_in some.is-0, ap number_in some.is-1, c.number.ensures, c.number-in-Some-Some.ensures, c.if-number.true)

pub returns-else-number : goal.returns-else-number
returns-else-number c =
    let some = c.in-Some-Some in
    omega (arith, ap number_in some.is-0, ap number_in some.is-1, c.number.ensures, c.number-in-Some-Some.ensures, c.if-number.false)

pub returns-in_default-None : goal.returns-in_default-None
returns-in_default-None c = omega (arith, ap number_in c.in_default-None.is-1, number_most c.args.a)

pub returns-in-None-default : goal.returns-in-None-default
returns-in-None-default c = omega (arith, ap number_in c.in-None-default.is-0, number_most c.args.b)
