-- `run_from` meets its contract. The loop's invariant is `Along`: the run that is left ends as the whole run does, and `at` has the label and where
-- it stands. The measure is the fuel that is left. That it ends as it should at a finish the check finds by `at_finish`.
use native.Mathlib.Omega.{arith}
use Rattle.rules.proofs.FetchLaws.{code_facts}
use Rattle.code.proofs.Along.{borne, onward, without_fuel}
use Rattle.code.proofs.run_from.Goals as goal

pub invariant_of-code : goal.invariant_of-code
invariant_of-code c = record { rising = (code_facts _ _ c.requires.code).rising }

pub returns-then-steps-fuel : goal.returns-then-steps-fuel
returns-then-steps-fuel c = without_fuel c.loop-at.invariant (borne c.loop-at.invariant c.in-Some.is) (omega (arith, c.loop-at.invariant.within))

pub loop-at-preserved : goal.loop-at-preserved
loop-at-preserved c =
    onward c.loop-at.invariant (borne c.loop-at.invariant c.in-Some.is) (omega arith) c.step-at.ensures
