-- A word's bits: bit j is worth 2 ^ j.
use Rattle.std.specs.Prelude.{ℕ, ◌/◌, ◌%◌, ◌^◌}
use Rattle.std.specs.Int.Bits.{bit_or}

-- 1 where bit j is set, otherwise 0
unfoldable pub bit : ℕ → ℕ → ℕ
bit w j = w / 2 ^ j % 2

-- w with bit j set
unfoldable pub with_bit : ℕ → ℕ → ℕ
with_bit w j = bit_or w (2 ^ j)
