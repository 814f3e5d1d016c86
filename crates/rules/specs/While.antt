-- While (001, Appendix A): statements, the natural semantics of Fig. A.1, the count that 01 lays on it, the unfinished run,
-- and the run within fuel as a function. An expression is named by its node; `Meaning` says what the nodes mean.
use Rattle.std.specs.Prelude.{◌≡◌, ℕ, zero, suc, ◌+◌, ◌≤◌, Bool, true, false, set, ℤ}
use Rattle.rules.specs.Expression.{Store}

-- s ::= skip | x := a | s₀; s₁ | if b then sₜ else s_f | while b do sₜ
pub data Stm : Type 0 where
  skip : Stm
  assign : ℕ → ℕ → Stm
  seq : Stm → Stm → Stm
  if : ℕ → Stm → Stm → Stm
  while : ℕ → Stm → Stm

-- ⟦a⟧σ, and whether σ ⊨ b
pub record Meaning : Type 0 where
  pub arith : ℕ → Store → ℤ
  pub holds : ℕ → Store → Bool

-- σ[x ↦ ⟦a⟧σ]
abbrev pub assigned : Meaning → ℕ → ℕ → Store → Store
assigned M x a σ = set σ x (M.arith a σ)

-- σ ≻ s → σ' (Fig. A.1)
pub data Evaluates (M : Meaning) : Stm → Store → Store → Type 0 where
  assign_ns : {x a : ℕ} {σ : Store} → Evaluates M (assign x a) σ (assigned M x a σ)
  skip_ns : {σ : Store} → Evaluates M skip σ σ
  comp_ns : {s₀ s₁ : Stm} {σ σ'' σ' : Store} → Evaluates M s₀ σ σ'' → Evaluates M s₁ σ'' σ' → Evaluates M (seq s₀ s₁) σ σ'
  if_tt_ns : {b : ℕ} {sₜ s : Stm} {σ σ' : Store} → M.holds b σ ≡ true → Evaluates M sₜ σ σ' → Evaluates M (if b sₜ s) σ σ'
  if_ff_ns : {b : ℕ} {sₜ s : Stm} {σ σ' : Store} → M.holds b σ ≡ false → Evaluates M s σ σ' → Evaluates M (if b sₜ s) σ σ'
  while_tt_ns : {b : ℕ} {sₜ : Stm} {σ σ'' σ' : Store} → M.holds b σ ≡ true → Evaluates M sₜ σ σ'' → Evaluates M (while b sₜ) σ'' σ'
      → Evaluates M (while b sₜ) σ σ'
  while_ff_ns : {b : ℕ} {sₜ : Stm} {σ : Store} → M.holds b σ ≡ false → Evaluates M (while b sₜ) σ σ

-- "Skip costs 0. Assign costs 1. A sequence costs the sum of its parts. An if costs 1 for its test, then the branch taken, and 1 more
-- after the then branch. A while costs 1 for each test, and after each true test the body and 1 more."
unfoldable pub count : {M : Meaning} {s : Stm} {σ σ' : Store} → Evaluates M s σ σ' → ℕ
count assign_ns = 1
count skip_ns = 0
count (comp_ns d₀ d₁) = count d₀ + count d₁
count (if_tt_ns h d) = 1 + count d + 1
count (if_ff_ns h d) = 1 + count d
count (while_tt_ns h d e) = 1 + count d + 1 + count e
count (while_ff_ns h) = 1

-- the While rules give an evaluation from σ whose count is at most n
abbrev pub EvaluatesWithin : Meaning → Stm → Store → ℕ → Type 0
EvaluatesWithin M s σ n = (σ' : Store) × (d : Evaluates M s σ σ') × (count d ≤ n)

-- "the store holds exactly the assignments among the first n units": after n units of s from σ the store is σ', and a unit is still
-- owed. The units of a statement are, in order, its test, its branch or body, and the one that closes a then branch or a pass.
pub data Unfinished (M : Meaning) : Stm → Store → ℕ → Store → Type 0 where
  at_assign : {x a : ℕ} {σ : Store} → Unfinished M (assign x a) σ 0 σ
  in_first : {s₀ s₁ : Stm} {σ σ' : Store} {n : ℕ} → Unfinished M s₀ σ n σ' → Unfinished M (seq s₀ s₁) σ n σ'
  in_second : {s₀ s₁ : Stm} {σ σ'' σ' : Store} {n : ℕ} → (d : Evaluates M s₀ σ σ'') → Unfinished M s₁ σ'' n σ'
      → Unfinished M (seq s₀ s₁) σ (count d + n) σ'
  at_test : {b : ℕ} {sₜ s : Stm} {σ : Store} → Unfinished M (if b sₜ s) σ 0 σ
  in_then : {b : ℕ} {sₜ s : Stm} {σ σ' : Store} {n : ℕ} → M.holds b σ ≡ true → Unfinished M sₜ σ n σ' → Unfinished M (if b sₜ s) σ (1 + n) σ'
  at_then_end : {b : ℕ} {sₜ s : Stm} {σ σ' : Store} → M.holds b σ ≡ true → (d : Evaluates M sₜ σ σ') → Unfinished M (if b sₜ s) σ (1 + count d) σ'
  in_else : {b : ℕ} {sₜ s : Stm} {σ σ' : Store} {n : ℕ} → M.holds b σ ≡ false → Unfinished M s σ n σ' → Unfinished M (if b sₜ s) σ (1 + n) σ'
  at_while_test : {b : ℕ} {sₜ : Stm} {σ : Store} → Unfinished M (while b sₜ) σ 0 σ
  in_body : {b : ℕ} {sₜ : Stm} {σ σ' : Store} {n : ℕ} → M.holds b σ ≡ true → Unfinished M sₜ σ n σ' → Unfinished M (while b sₜ) σ (1 + n) σ'
  at_pass_end : {b : ℕ} {sₜ : Stm} {σ σ' : Store} → M.holds b σ ≡ true → (d : Evaluates M sₜ σ σ') → Unfinished M (while b sₜ) σ (1 + count d) σ'
  in_next_pass : {b : ℕ} {sₜ : Stm} {σ σ'' σ' : Store} {n : ℕ} → M.holds b σ ≡ true → (d : Evaluates M sₜ σ σ'')
      → Unfinished M (while b sₜ) σ'' n σ' → Unfinished M (while b sₜ) σ (1 + count d + 1 + n) σ'

-- ---- the run within fuel, as a function: done, with the fuel left, or stopped for want of fuel

pub data Outcome : Type 0 where
  done : Store → ℕ → Outcome
  stop : Store → Outcome

-- the first part, then what follows it
unfoldable pub and_then : Outcome → (Store → ℕ → Outcome) → Outcome
and_then (done σ n) next = next σ n
and_then (stop σ) next = stop σ

-- one unit that leaves the store alone
unfoldable pub spend : (ℕ → Outcome) → Store → ℕ → Outcome
spend next σ zero = stop σ
spend next σ (suc n) = next n

-- passes of a loop; each pass spends a unit, so as many passes as fuel, and one test more, are enough
unfoldable pub passes : (Store → Bool) → (ℕ → Store → Outcome) → ℕ → ℕ → Store → Outcome
passes test body zero n σ = stop σ
passes test body (suc g) n σ =
    spend (λ n₁. elim (test σ) [
      | true ↦ and_then (body n₁ σ) (λ σ₁ n₂. spend (λ n₃. passes test body g n₃ σ₁) σ₁ n₂)
      | false ↦ done σ n₁
    ]) σ n

unfoldable pub exec : Meaning → Stm → ℕ → Store → Outcome
exec M skip n σ = done σ n
exec M (assign x a) n σ = spend (done (assigned M x a σ)) σ n
exec M (seq s₀ s₁) n σ = and_then (exec M s₀ n σ) (λ σ₁ m. exec M s₁ m σ₁)
exec M (if b sₜ s) n σ =
    spend (λ m. elim (M.holds b σ) [
      | true ↦ and_then (exec M sₜ m σ) (λ σ₁ j. spend (done σ₁) σ₁ j)
      | false ↦ exec M s m σ
    ]) σ n
exec M (while b sₜ) n σ = passes (M.holds b) (exec M sₜ) (suc n) n σ
