-- Compilation from While to SGoto (001, section 4): the rules of Fig. 5, and the function that compiles, in label order.
use Rattle.std.specs.Prelude.{ℕ, ◌+◌, [], ◌∷◌, ◌++◌}
use Rattle.rules.specs.While.{Stm, skip, assign, seq, if, while}
use Rattle.rules.specs.Goto.{◌≔◌, goto, ifnot, Code}
use Rattle.rules.specs.SGoto.{SCode, single, 𝟎, ◌⊕◌}

-- s, from label ℓ, compiles to sc, with end label ℓ' (Fig. 5)
pub data Compiles : Stm → ℕ → SCode → ℕ → Type 0 where
  assign_c : {x a ℓ : ℕ} → Compiles (assign x a) ℓ (single ℓ (x ≔ a)) (ℓ + 1)
  skip_c : {ℓ : ℕ} → Compiles skip ℓ 𝟎 ℓ
  seq_c : {s₀ s₁ : Stm} {sc₀ sc₁ : SCode} {ℓ ℓ'' ℓ' : ℕ} → Compiles s₀ ℓ sc₀ ℓ'' → Compiles s₁ ℓ'' sc₁ ℓ' → Compiles (seq s₀ s₁) ℓ (sc₀ ⊕ sc₁) ℓ'
  if_c : {b : ℕ} {sₜ s : Stm} {scₜ sc : SCode} {ℓ ℓ'' ℓ' : ℕ}
      → Compiles sₜ (ℓ + 1) scₜ ℓ'' → Compiles s (ℓ'' + 1) sc ℓ'
      → Compiles (if b sₜ s) ℓ (single ℓ (ifnot b (ℓ'' + 1)) ⊕ ((scₜ ⊕ single ℓ'' (goto ℓ')) ⊕ sc)) ℓ'
  while_c : {b : ℕ} {sₜ : Stm} {scₜ : SCode} {ℓ ℓ'' : ℕ}
      → Compiles sₜ (ℓ + 1) scₜ ℓ''
      → Compiles (while b sₜ) ℓ (single ℓ (ifnot b (ℓ'' + 1)) ⊕ (scₜ ⊕ single ℓ'' (goto ℓ))) (ℓ'' + 1)

-- how many instructions a statement compiles to; its end label is ℓ + size s
unfoldable pub size : Stm → ℕ
size skip = 0
size (assign x a) = 1
size (seq s₀ s₁) = size s₀ + size s₁
size (if b sₜ s) = size sₜ + size s + 2
size (while b sₜ) = size sₜ + 2

-- 01, "Compilation at start label s": the code, "Instructions stand in label order."
unfoldable pub compile : Stm → ℕ → Code
compile skip ℓ = []
compile (assign x a) ℓ = (ℓ, x ≔ a) ∷ []
compile (seq s₀ s₁) ℓ = compile s₀ ℓ ++ compile s₁ (ℓ + size s₀)
compile (if b sₜ s) ℓ =
    let m : ℕ = ℓ + 1 + size sₜ in
    (ℓ, ifnot b (m + 1)) ∷ (compile sₜ (ℓ + 1) ++ ((m, goto (m + 1 + size s)) ∷ compile s (m + 1)))
compile (while b sₜ) ℓ =
    let m : ℕ = ℓ + 1 + size sₜ in
    (ℓ, ifnot b (m + 1)) ∷ (compile sₜ (ℓ + 1) ++ ((m, goto ℓ) ∷ []))
