-- What the functions of the code run ask of each other: where a run stands in the words of its code, and what one step leaves.
use Rattle.std.specs.Prelude.{◌≡◌, ℕ, ◌<◌, List, length, Option, MatchOption}
use Rattle.std.proofs.Math.Option.{none}
use Rattle.rules.specs.Expression.{Store}
use Rattle.rules.specs.Goto.{next_label, next_store}
use Rattle.rules.specs.Table.{Accepted, meaning}
use Rattle.rules.specs.CodeWords.{part, instructions, instr_at, code_refusal}

-- instruction k bears ℓ
pub record Bears (c : List ℕ) (ℓ k : ℕ) : Type 0 where
  pub inside : k < instructions c
  pub label : part c k 0 ≡ ℓ

-- where ℓ stands: at the instruction that bears it, or nowhere
abbrev pub Place : List ℕ → ℕ → Option ℕ → Type 0
Place c ℓ place = MatchOption place ((j : ℕ) → Bears c ℓ j → ⊥) (Bears c ℓ)

-- nothing that a run reads is refused
pub record Admitted (t c : List ℕ) (σ : Store) : Type 0 where
  pub table : Accepted t
  pub code : code_refusal t c ≡ none
  pub store : length σ ≡ 32

-- instruction k can be run
pub record Stands (t c : List ℕ) (k : ℕ) (σ : Store) : Type 0 where
  pub admitted : Admitted t c σ
  pub inside : k < instructions c

-- instruction k has taken the store σ to σ', and the run to ℓ, at this position
pub record Stepped (t c : List ℕ) (k : ℕ) (σ : Store) (ℓ : ℕ) (place : Option ℕ) (σ' : Store) : Type 0 where
  pub label : ℓ ≡ next_label (meaning t) (instr_at c k) (part c k 0) σ
  pub store : σ' ≡ next_store (meaning t) (instr_at c k) σ
  pub at : Place c ℓ place
