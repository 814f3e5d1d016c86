-- The lowest bit of a word that is not 0, as the loops over the bits of a word take it.
use mathlib.Core.Path.{◌≡◌}
use Prim.Native.Nat.{ℕ, ◌<◌}
use native.Mathlib.Nat.{pos_of_ne-zero}
use lib.Count.{count_trailing_zeros}
use Rattle.bits.proofs.BitLaws.{Lowest, lowest}

pub low_bit : (w : ℕ) → (w ≡ 0 → ⊥) → w < 4294967296 → Lowest 32 w (count_trailing_zeros 32 w)
low_bit w some short = lowest 32 w (pos_of_ne-zero some) short
