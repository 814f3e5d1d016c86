-- `bits::with` meets its contract.
use mathlib.Core.Path.{ap}
use Prim.Native.Nat.{ℕ, ◌%◌}
use native.Mathlib.Omega.{arith}
use lib.Bits.{bit_or}
use Rattle.bits.specs.Bit.{with_bit}
use Rattle.bits.proofs.BitLaws.{shifted}
use Rattle.bits.proofs.with.Goals as goal

pub returns : goal.returns
unfolding with_bit
returns c = ap (λ (b : ℕ). bit_or c.args.w b) (shifted (c.args.k % 32) (omega arith))
