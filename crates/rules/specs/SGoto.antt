-- SGoto (001, section 3): structured pieces of code, their domain, the forgetful map, and the natural semantics of Fig. 2.
use Rattle.std.specs.Prelude.{◌≡◌, ℕ, ◌+◌, true, false, [], ◌∷◌, ◌++◌, ◌⊎◌}
use Rattle.rules.specs.Expression.{Store}
use Rattle.rules.specs.While.{Meaning, assigned}
use Rattle.rules.specs.Goto.{Instr, ◌≔◌, goto, ifnot, Code}

infixr 10 ◌⊕◌
-- sc ::= (ℓ, instr) | 0 | sc₀ ⊕ sc₁
pub data SCode : Type 0 where
  single : ℕ → Instr → SCode
  𝟎 : SCode
  ◌⊕◌ : SCode → SCode → SCode

-- ℓ ∈ dom(sc)
unfoldable pub Dom : SCode → ℕ → Type 0
Dom (single ℓ i) m = m ≡ ℓ
Dom 𝟎 m = ⊥
Dom (sc₀ ⊕ sc₁) m = Dom sc₀ m ⊎ Dom sc₁ m

-- the labels of all instructions are different
unfoldable pub WellformedS : SCode → Type 0
WellformedS (single ℓ i) = Unit {0}
WellformedS 𝟎 = Unit {0}
WellformedS (sc₀ ⊕ sc₁) = WellformedS sc₀ × WellformedS sc₁ × ((m : ℕ) → Dom sc₀ m → Dom sc₁ m → ⊥)

-- the forgetful map U
unfoldable pub U : SCode → Code
U (single ℓ i) = (ℓ, i) ∷ []
U 𝟎 = []
U (sc₀ ⊕ sc₁) = U sc₀ ++ U sc₁

-- (ℓ, σ) ≻ sc → (ℓ', σ') (Fig. 2)
pub data EvaluatesS (M : Meaning) : SCode → ℕ → Store → ℕ → Store → Type 0 where
  assign_ns : {ℓ x a : ℕ} {σ : Store} → EvaluatesS M (single ℓ (x ≔ a)) ℓ σ (ℓ + 1) (assigned M x a σ)
  goto_ns : {ℓ m : ℕ} {σ : Store} → (m ≡ ℓ → ⊥) → EvaluatesS M (single ℓ (goto m)) ℓ σ m σ
  ifngoto_tt_ns : {ℓ b m : ℕ} {σ : Store} → M.holds b σ ≡ true → EvaluatesS M (single ℓ (ifnot b m)) ℓ σ (ℓ + 1) σ
  ifngoto_ff_ns : {ℓ b m : ℕ} {σ : Store} → M.holds b σ ≡ false → (m ≡ ℓ → ⊥) → EvaluatesS M (single ℓ (ifnot b m)) ℓ σ m σ
  ⊕₀_ns : {sc₀ sc₁ : SCode} {ℓ ℓ'' ℓ' : ℕ} {σ σ'' σ' : Store} → Dom sc₀ ℓ → EvaluatesS M sc₀ ℓ σ ℓ'' σ'' → EvaluatesS M (sc₀ ⊕ sc₁) ℓ'' σ'' ℓ' σ' → EvaluatesS M (sc₀ ⊕ sc₁) ℓ σ ℓ' σ'
  ⊕₁_ns : {sc₀ sc₁ : SCode} {ℓ ℓ'' ℓ' : ℕ} {σ σ'' σ' : Store} → Dom sc₁ ℓ → EvaluatesS M sc₁ ℓ σ ℓ'' σ'' → EvaluatesS M (sc₀ ⊕ sc₁) ℓ'' σ'' ℓ' σ' → EvaluatesS M (sc₀ ⊕ sc₁) ℓ σ ℓ' σ'
  ood_ns : {sc : SCode} {ℓ : ℕ} {σ : Store} → (Dom sc ℓ → ⊥) → EvaluatesS M sc ℓ σ ℓ σ
