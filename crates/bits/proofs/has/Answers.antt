-- `bits::has` meets its contract.
use mathlib.Core.Path.{refl}
use Rattle.bits.specs.Bit.{bit}
use Rattle.bits.proofs.has.Goals as goal

pub returns : goal.returns
unfolding bit
returns c = refl
