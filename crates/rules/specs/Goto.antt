-- Goto (001, section 2): labelled instructions, the step rules of Fig. 1, and the run within fuel.
use Rattle.std.specs.Prelude.{◌≡◌, ℕ, zero, suc, ◌+◌, true, false}
use mathlib.Core.List.{List, Memᴰ}
use Rattle.std.proofs.Math.Option.{none, some}
use Rattle.rules.specs.Lists.{fetch}
use Rattle.rules.specs.Expression.{Store}
use Rattle.rules.specs.While.{Meaning, assigned}

infix 30 ◌≔◌
infix 20 ◌∈◌
-- instr ::= x := a | goto ℓ | ifnot b goto ℓ
pub data Instr : Type 0 where
  ◌≔◌ : ℕ → ℕ → Instr
  goto : ℕ → Instr
  ifnot : ℕ → ℕ → Instr

-- a piece of code is a finite set of labelled instructions
abbrev pub Code : Type 0
Code = List (ℕ × Instr)

abbrev pub ◌∈◌ : ℕ × Instr → Code → Type 0
◌∈◌ li c = Memᴰ li c

-- ℓ ∈ dom(c)
abbrev pub InDom : Code → ℕ → Type 0
InDom c ℓ = (i : Instr) × (ℓ, i) ∈ c

-- no label labels two different instructions
abbrev pub Wellformed : Code → Type 0
Wellformed c = (ℓ : ℕ) (i j : Instr) → (ℓ, i) ∈ c → (ℓ, j) ∈ c → i ≡ j

-- c ⊢ (ℓ, σ) → (ℓ', σ') (Fig. 1)
pub data Step (M : Meaning) (c : Code) : ℕ → Store → ℕ → Store → Type 0 where
  assign_ss : {ℓ x a : ℕ} {σ : Store} → (ℓ, x ≔ a) ∈ c → Step M c ℓ σ (ℓ + 1) (assigned M x a σ)
  goto_ss : {ℓ m : ℕ} {σ : Store} → (ℓ, goto m) ∈ c → Step M c ℓ σ m σ
  ifngoto_tt_ss : {ℓ b m : ℕ} {σ : Store} → (ℓ, ifnot b m) ∈ c → M.holds b σ ≡ true → Step M c ℓ σ (ℓ + 1) σ
  ifngoto_ff_ss : {ℓ b m : ℕ} {σ : Store} → (ℓ, ifnot b m) ∈ c → M.holds b σ ≡ false → Step M c ℓ σ m σ

-- c ⊢ (ℓ, σ) →ⁿ (ℓ', σ')
pub data Steps (M : Meaning) (c : Code) : ℕ → ℕ → Store → ℕ → Store → Type 0 where
  none_yet : {ℓ : ℕ} {σ : Store} → Steps M c zero ℓ σ ℓ σ
  one_more : {n ℓ ℓ'' ℓ' : ℕ} {σ σ'' σ' : Store} → Step M c ℓ σ ℓ'' σ'' → Steps M c n ℓ'' σ'' ℓ' σ' → Steps M c (suc n) ℓ σ ℓ' σ'

-- c ⊢ (ℓ, σ) ↛
abbrev pub Stuck : Meaning → Code → ℕ → Store → Type 0
Stuck M c ℓ σ = (ℓ' : ℕ) (σ' : Store) → Step M c ℓ σ ℓ' σ' → ⊥

-- ---- the run within fuel, as a function: "A label that no instruction bears is a finish, tested before fuel."

pub data Halted : Type 0 where
  finished : ℕ → Store → ℕ → Halted
  out : ℕ → Store → Halted

unfoldable pub next_label : Meaning → Instr → ℕ → Store → ℕ
next_label M (x ≔ a) ℓ σ = ℓ + 1
next_label M (goto m) ℓ σ = m
next_label M (ifnot b m) ℓ σ = elim (M.holds b σ) [ true ↦ ℓ + 1 | false ↦ m ]

unfoldable pub next_store : Meaning → Instr → Store → Store
next_store M (x ≔ a) σ = assigned M x a σ
next_store M (goto m) σ = σ
next_store M (ifnot b m) σ = σ

-- finished at a label, with the fuel left; or out of fuel at a label
unfoldable pub run : Meaning → Code → ℕ → ℕ → Store → Halted
run M c zero ℓ σ = elim (fetch c ℓ) [ none ↦ finished ℓ σ zero | some i ↦ out ℓ σ ]
run M c (suc n) ℓ σ = elim (fetch c ℓ) [ none ↦ finished ℓ σ (suc n) | some i ↦ run M c n (next_label M i ℓ σ) (next_store M i σ) ]
