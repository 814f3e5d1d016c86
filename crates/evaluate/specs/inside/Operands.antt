-- What the evaluators tell each other: the operation of a kind, and what is known of a node's operands.
use Rattle.std.specs.Prelude.{◌≡◌, ℕ, ◌<◌, ◌≤◌, List, [], ◌∷◌, ℤ}
use Rattle.std.proofs.Math.Option.{none, some}
use Rattle.std.specs.Int.Signed.{mag}
use Rattle.rules.specs.Lists.{fetch}
use Rattle.rules.specs.Expression.{Store, Operator, plus, minus, times, over, rest, Relation, equal, at_most, less}
use Rattle.rules.specs.Table.{Class, arithmetic, field, meaning}
use Rattle.evaluate.specs.Ready.{Ready}

-- the operator of a kind from 3 to 7, and the relation of one from 18 to 20
unfoldable pub operator_of : ℕ → Operator
operator_of k = elim (fetch ((3, plus) ∷ (4, minus) ∷ (5, times) ∷ (6, over) ∷ (7, rest) ∷ []) k) [ some o ↦ o | none ↦ plus ]

unfoldable pub relation_of : ℕ → Relation
relation_of k = elim (fetch ((18, equal) ∷ (19, at_most) ∷ (20, less) ∷ []) k) [ some o ↦ o | none ↦ equal ]

-- n is a number or a variable, and k its kind
pub record Leaf (t : List ℕ) (n k : ℕ) : Type 0 where
  pub ready : Ready t n arithmetic
  pub kind : k ≡ field t n 0
  pub low : k ≤ 2

-- n is an arithmetic node that is neither, and k its kind
pub record Compound (t : List ℕ) (n k : ℕ) : Type 0 where
  pub ready : Ready t n arithmetic
  pub kind : k ≡ field t n 0
  pub high : 3 ≤ k

-- a node whose words p and q are arithmetic nodes
pub record Operands (t : List ℕ) (n : ℕ) : Type 0 where
  pub class : Class
  pub node : Ready t n class
  pub first : Ready t (field t n 1) arithmetic
  pub second : Ready t (field t n 2) arithmetic

-- r is what node n is worth, in 32 bits
pub record Value (t : List ℕ) (n : ℕ) (σ : Store) (r : ℤ) : Type 0 where
  pub is : r ≡ (meaning t).arith n σ
  pub small : mag r < 2147483648

-- a and b are what they are worth
abbrev pub Worth : List ℕ → ℕ → Store → ℤ → ℤ → Type 0
Worth t n σ a b = Value t (field t n 1) σ a × Value t (field t n 2) σ b
