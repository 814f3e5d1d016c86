-- `value::div` meets its contract, by the sign of the divisor; by a positive one as the check finds by `div_euclid_is`.
use Rattle.std.proofs.Common.{pos}
use Rattle.rules.proofs.DivisionLaws.{antisymmetric, quotient_by_zero}
use Rattle.value.proofs.Machine.{not_less, zero_fits}
use Rattle.value.proofs.div.Goals as goal

pub returns-else-b-lt0 : goal.returns-else-b-lt0
returns-else-b-lt0 c =
    let b = c.args.b in
    let at_most = not_less (pos 0) b zero_fits c.ranges.b c.if-b-gt0.false in
    let at_least_lem = not_less b (pos 0) c.ranges.b zero_fits c.if-b-lt0.false in
    cc (antisymmetric b (pos 0) at_most at_least_lem, quotient_by_zero c.args.a)
