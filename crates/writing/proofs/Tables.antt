-- What stands in the table: each byte's two digits.
use mathlib.Core.Path.{◌≡◌, refl, ap, ◌∙◌}
use mathlib.Core.List.{List, [], ◌∷◌}
use Prim.Native.Nat.{ℕ, ◌+◌, ◌*◌, ◌/◌, ◌%◌, ◌<◌}
use native.Mathlib.Omega.{arith}
use lib.ListN.{get_or}
use Rattle.rules.specs.Text.{digit}
use Rattle.rules.proofs.ListLaws.{get_d_joined}
use Rattle.writing.specs.inside.Parts.{pair_of, pair_table}

-- the table, as it is laid down
pub record IsTable (ps : List ℕ) : Type 0 where
  pub is : ps ≡ pair_table

module _ {ps : List ℕ} (table : IsTable ps) (b : ℕ) (h : b < 256) where
  first_digit_at : get_or ps (2 * b) 0 ≡ digit (b / 16)
  unfolding pair_table
  first_digit_at =
      rw table.is (ap (λ (i : ℕ). get_or pair_table i 0) (omega arith)
      ∙ get_d_joined (λ b. digit (b / 16) ∷ digit (b % 16) ∷ []) 2 256 0 (λ k l. refl) b 0 h (omega arith))

  second_digit_at : get_or ps (2 * b + 1) 0 ≡ digit (b % 16)
  unfolding pair_table
  second_digit_at = rw table.is (get_d_joined (λ b. digit (b / 16) ∷ digit (b % 16) ∷ []) 2 256 0 (λ k l. refl) b 1 h (omega arith))

  pub pair_at : (get_or ps (2 * b) 0 ∷ get_or ps (2 * b + 1) 0 ∷ []) ≡ pair_of b
  unfolding pair_of
  pair_at = rw (first_digit_at, second_digit_at)
