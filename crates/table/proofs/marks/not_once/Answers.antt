-- `table::marks::not_once` meets its contract.
use mathlib.Core.Path.{ap, ◌∙◌}
use Prim.Native.Nat.{ℕ, ◌-◌}
use lib.Bits.{bit_xor, xor_lt}
use borrow.Author.Rules.{rules}
use Rattle.bits.proofs.BitLaws.{bit_of_xor, bit_of_not}
use Rattle.table.proofs.marks.not_once.Goals as goal

pub returns : goal.returns
returns c = λ j h.
    let a = c.args.once in
    let b = c.args.again in
    bit_of_not 32 (bit_xor a b) j (xor_lt 32 a b (search rules) (search rules)) h ∙ ap (λ (x : ℕ). 1 - x) (bit_of_xor a b j)
