-- The While rules on a rule as it was typed: the natural semantics of 001 (Fig. A.1) with the count that 01 lays on it, and the
-- unfinished run, as `While` of `rules` has them for a table's statements, here on trees. `follows` (proofs/table/Follows) shows that the
-- table that is written of a text does what its tree does.
use Rattle.std.specs.Prelude.{◌≡◌, ℕ, ◌+◌, true, false, set}
use Rattle.rules.specs.Expression.{Arith, Boole, Store, value_in, truth_in}
use Rattle.rules.specs.While
use Rattle.rules.specs.While.{Stm, Meaning, count}
use Rattle.grammar.specs.Rule.{Rule, skip, assign, seq, if, while}

-- σ ≻ r → σ', and its cost n. "Skip costs 0. Assign costs 1. A sequence costs the sum of its parts. An if costs 1 for its test, then the
-- branch taken, and 1 more after the then branch. A while costs 1 for each test, and after each true test the body and 1 more."
pub data Evaluates : Rule → Store → ℕ → Store → Type 0 where
  assign_ns : {x : ℕ} {a : Arith} {σ : Store} → Evaluates (assign x a) σ 1 (set σ x (value_in a σ))
  skip_ns : {σ : Store} → Evaluates skip σ 0 σ
  comp_ns : {r₀ r₁ : Rule} {σ σ'' σ' : Store} {m n : ℕ}
      → Evaluates r₀ σ m σ'' → Evaluates r₁ σ'' n σ' → Evaluates (seq r₀ r₁) σ (m + n) σ'
  if_tt_ns : {b : Boole} {rₜ r : Rule} {σ σ' : Store} {n : ℕ}
      → truth_in b σ ≡ true → Evaluates rₜ σ n σ' → Evaluates (if b rₜ r) σ (1 + n + 1) σ'
  if_ff_ns : {b : Boole} {rₜ r : Rule} {σ σ' : Store} {n : ℕ}
      → truth_in b σ ≡ false → Evaluates r σ n σ' → Evaluates (if b rₜ r) σ (1 + n) σ'
  while_tt_ns : {b : Boole} {rₜ : Rule} {σ σ'' σ' : Store} {m n : ℕ}
      → truth_in b σ ≡ true → Evaluates rₜ σ m σ'' → Evaluates (while b rₜ) σ'' n σ' → Evaluates (while b rₜ) σ (1 + m + 1 + n) σ'
  while_ff_ns : {b : Boole} {rₜ : Rule} {σ : Store} → truth_in b σ ≡ false → Evaluates (while b rₜ) σ 1 σ

-- "the store holds exactly the assignments among the first n units": after n units of r from σ the store is σ', and a unit is still owed
pub data Unfinished : Rule → Store → ℕ → Store → Type 0 where
  at_assign : {x : ℕ} {a : Arith} {σ : Store} → Unfinished (assign x a) σ 0 σ
  in_first : {r₀ r₁ : Rule} {σ σ' : Store} {n : ℕ} → Unfinished r₀ σ n σ' → Unfinished (seq r₀ r₁) σ n σ'
  in_second : {r₀ r₁ : Rule} {σ σ'' σ' : Store} {m n : ℕ}
      → Evaluates r₀ σ m σ'' → Unfinished r₁ σ'' n σ' → Unfinished (seq r₀ r₁) σ (m + n) σ'
  at_test : {b : Boole} {rₜ r : Rule} {σ : Store} → Unfinished (if b rₜ r) σ 0 σ
  in_then : {b : Boole} {rₜ r : Rule} {σ σ' : Store} {n : ℕ}
      → truth_in b σ ≡ true → Unfinished rₜ σ n σ' → Unfinished (if b rₜ r) σ (1 + n) σ'
  at_then_end : {b : Boole} {rₜ r : Rule} {σ σ' : Store} {n : ℕ}
      → truth_in b σ ≡ true → Evaluates rₜ σ n σ' → Unfinished (if b rₜ r) σ (1 + n) σ'
  in_else : {b : Boole} {rₜ r : Rule} {σ σ' : Store} {n : ℕ}
      → truth_in b σ ≡ false → Unfinished r σ n σ' → Unfinished (if b rₜ r) σ (1 + n) σ'
  at_while_test : {b : Boole} {rₜ : Rule} {σ : Store} → Unfinished (while b rₜ) σ 0 σ
  in_body : {b : Boole} {rₜ : Rule} {σ σ' : Store} {n : ℕ}
      → truth_in b σ ≡ true → Unfinished rₜ σ n σ' → Unfinished (while b rₜ) σ (1 + n) σ'
  at_pass_end : {b : Boole} {rₜ : Rule} {σ σ' : Store} {n : ℕ}
      → truth_in b σ ≡ true → Evaluates rₜ σ n σ' → Unfinished (while b rₜ) σ (1 + n) σ'
  in_next_pass : {b : Boole} {rₜ : Rule} {σ σ'' σ' : Store} {m n : ℕ}
      → truth_in b σ ≡ true → Evaluates rₜ σ m σ'' → Unfinished (while b rₜ) σ'' n σ' → Unfinished (while b rₜ) σ (1 + m + 1 + n) σ'

-- a statement, under what its nodes mean, does what a rule does: the same evaluations at the same costs, the same unfinished runs
pub record Follows (M : Meaning) (s : Stm) (r : Rule) : Type 0 where
  pub evaluates : {σ σ' : Store} (d : While.Evaluates M s σ σ') → Evaluates r σ (count d) σ'
  pub evaluated : {σ σ' : Store} {n : ℕ} → Evaluates r σ n σ' → (d : While.Evaluates M s σ σ') × (count d ≡ n)
  pub unfinished : {σ σ' : Store} {n : ℕ} → While.Unfinished M s σ n σ' → Unfinished r σ n σ'
  pub owed : {σ σ' : Store} {n : ℕ} → Unfinished r σ n σ' → While.Unfinished M s σ n σ'
