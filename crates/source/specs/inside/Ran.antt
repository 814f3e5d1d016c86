-- What the source run's parts answer. A credit is one more than the fuel, so that none says: the fuel was spent before the end.
use Rattle.std.specs.Prelude.{◌≡◌, List, ℕ, zero, suc, ◌-◌}
use Rattle.rules.specs.Expression.{Store}
use Rattle.rules.specs.While.{Outcome, done, stop, exec}
use Rattle.rules.specs.Table.{Kind, kind_at, statement, meaning, tree_at, stm_of}
use Rattle.evaluate.specs.Ready.{Ready}

-- the credit that is left, with the store, is an outcome
unfoldable pub outcome : ℕ → Store → Outcome
outcome zero σ = stop σ
outcome (suc left) σ = done σ left

-- the run of the statement of node n with a credit
abbrev pub runs : List ℕ → ℕ → ℕ → Store → Outcome
runs t n credit σ = exec (meaning t) (stm_of (tree_at t n)) (credit - 1) σ

-- it left the credit r, and the store σ'
pub record Ran (t : List ℕ) (n credit : ℕ) (σ : Store) (r : ℕ) (σ' : Store) : Type 0 where
  pub is : outcome r σ' ≡ runs t n credit σ

-- a statement node of a known kind
pub record Of (t : List ℕ) (n : ℕ) (k : Kind) : Type 0 where
  pub ready : Ready t n statement
  pub kind : kind_at t n ≡ k
