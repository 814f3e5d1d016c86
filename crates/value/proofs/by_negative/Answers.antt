-- `value::by_negative` meets its contract: above zero by its steps; otherwise, as the check finds by
-- `wrapping_div_is`, the machine's quotient is the one rounded down.
use Rattle.std.proofs.Common.{pos, negsuc, lit≤}
use lib.Signed.{le_z_yes}
use Rattle.value.proofs.Machine.{is_less_lem, zero_fits}
use Rattle.value.proofs.TowardsZero.{lessened_steps, unlike_negative}
use Rattle.value.proofs.by_negative.Goals as goal

pub returns-then-a-gt0 : goal.returns-then-a-gt0
returns-then-a-gt0 c =
    let above = is_less_lem (pos 0) _ zero_fits c.ranges.a c.if-a-gt0.true in
    (lessened_steps _ _ (negsuc 0) (negsuc 0) (lit≤ tt) (le_z_yes tt) (lit≤ tt) c.ranges.a c.ranges.b above c.requires).is (unlike_negative _ _ above c.requires)
