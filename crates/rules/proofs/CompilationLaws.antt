-- Compilation is total and deterministic (Lemma 13), its domain is exactly the interval (Lemma 14), and the function that compiles gives
-- the code of the published relation, label by label. A piece has no labels exactly if it comes from skips in sequence. Assumes nothing.
use mathlib.Core.Path.{◌≡◌, refl, sym, ap, ap₂, subst, ◌∙◌}
use Prim.Native.Nat.{ℕ, zero, suc, ◌+◌, ◌≤◌, ◌<◌}
use native.Mathlib.Omega.{arith}
use mathlib.Core.Bool.{Bool, true, false}
use lib.Dec.{ltb}
use borrow.Author.Tests.{ltb-true, ltb-false}
use mathlib.Core.List.Memᴰ
use mathlib.Core.List.{[], ◌∷◌, ◌++◌, append_assoc}
use mathlib.Core.Logic.{◌⊎◌, inl, inr, ⊎_elim, ◌↔◌}
use lib.ListN.{length, length-append}
use Rattle.rules.specs.While.{Stm, skip, assign, seq, if, while}
use Rattle.rules.specs.Goto.{Instr, ◌≔◌, goto, ifnot, Code, ◌∈◌, InDom, Wellformed}
use Rattle.rules.specs.SGoto.{SCode, single, 𝟎, ◌⊕◌, Dom, WellformedS, U}
use Rattle.rules.specs.Compilation.{Compiles, assign_c, skip_c, seq_c, if_c, while_c, size, compile}

-- ---- Lemma 13

-- the structured code of a statement
unfoldable pub structured : Stm → ℕ → SCode
structured skip ℓ = 𝟎
structured (assign x a) ℓ = single ℓ (x ≔ a)
structured (seq s₀ s₁) ℓ = structured s₀ ℓ ⊕ structured s₁ (ℓ + size s₀)
structured (if b sₜ s) ℓ =
    let m : ℕ = ℓ + 1 + size sₜ in
    single ℓ (ifnot b (m + 1)) ⊕ ((structured sₜ (ℓ + 1) ⊕ single m (goto (m + 1 + size s))) ⊕ structured s (m + 1))
structured (while b sₜ) ℓ =
    let m : ℕ = ℓ + 1 + size sₜ in
    single ℓ (ifnot b (m + 1)) ⊕ (structured sₜ (ℓ + 1) ⊕ single m (goto ℓ))

ends_at : {s : Stm} {ℓ : ℕ} {sc : SCode} {e e' : ℕ} → e ≡ e' → Compiles s ℓ sc e → Compiles s ℓ sc e'
ends_at {s} {ℓ} {sc} q c = subst (λ (i : ℕ). Compiles s ℓ sc i) q c

pub compiles : (s : Stm) (ℓ : ℕ) → Compiles s ℓ (structured s ℓ) (ℓ + size s)
unfolding structured size
compiles skip ℓ = ends_at (let q : ℓ ≡ ℓ + 0 = omega arith in q) skip_c
compiles (assign x a) ℓ = assign_c
compiles (seq s₀ s₁) ℓ = ends_at (let q : ℓ + size s₀ + size s₁ ≡ ℓ + (size s₀ + size s₁) = omega arith in q) (seq_c (compiles s₀ ℓ) (compiles s₁ (ℓ + size s₀)))
compiles (if b sₜ s) ℓ =
    ends_at (let q : ℓ + 1 + size sₜ + 1 + size s ≡ ℓ + (size sₜ + size s + 2) = omega arith in q)
    (if_c (compiles sₜ (ℓ + 1)) (compiles s (ℓ + 1 + size sₜ + 1)))
compiles (while b sₜ) ℓ = ends_at (let q : ℓ + 1 + size sₜ + 1 ≡ ℓ + (size sₜ + 2) = omega arith in q) (while_c (compiles sₜ (ℓ + 1)))

pub record Known (s : Stm) (ℓ : ℕ) (sc : SCode) (ℓ' : ℕ) : Type 0 where
  pub code : sc ≡ structured s ℓ
  pub end : ℓ' ≡ ℓ + size s

pub known : {s : Stm} {ℓ ℓ' : ℕ} {sc : SCode} → Compiles s ℓ sc ℓ' → Known s ℓ sc ℓ'
unfolding structured size
known assign_c = record { code = refl; end = refl }
known skip_c = record { code = refl; end = omega arith }
known (seq_c {s₁ = s₁} c₀ c₁) =
    let k₀ = known c₀ in let k₁ = known c₁ in
    record { code = ap₂ ◌⊕◌ k₀.code (k₁.code ∙ ap (structured s₁) k₀.end); end = omega (arith, k₀.end, k₁.end) }
known (if_c {b = b} {s = s} {ℓ = ℓ} c₀ c₁) =
    let k₀ = known c₀ in let k₁ = known c₁ in
    record { code = rw (k₀.code, k₁.code, k₁.end, k₀.end) refl; end = omega (arith, k₀.end, k₁.end) }
known (while_c {b = b} {ℓ = ℓ} c₀) =
    let k₀ = known c₀ in
    record { code = rw (k₀.code, k₀.end) refl; end = omega (arith, k₀.end) }

-- Lemma 13
pub total : (s : Stm) (ℓ : ℕ) → (sc : SCode) × (ℓ' : ℕ) × Compiles s ℓ sc ℓ'
total s ℓ = (structured s ℓ, ℓ + size s, compiles s ℓ)

pub compiles_alike : {s : Stm} {ℓ ℓ₀ ℓ₁ : ℕ} {sc₀ sc₁ : SCode} → Compiles s ℓ sc₀ ℓ₀ → Compiles s ℓ sc₁ ℓ₁ → (sc₀ ≡ sc₁) × (ℓ₀ ≡ ℓ₁)
compiles_alike c₀ c₁ = let k₀ = known c₀ in let k₁ = known c₁ in (k₀.code ∙ sym k₁.code, k₀.end ∙ sym k₁.end)

-- ---- the function that compiles gives the published code

forgotten : (s : Stm) (ℓ : ℕ) → U (structured s ℓ) ≡ compile s ℓ
unfolding structured compile U
forgotten skip ℓ = refl
forgotten (assign x a) ℓ = refl
forgotten (seq s₀ s₁) ℓ = ap₂ ◌++◌ (forgotten s₀ ℓ) (forgotten s₁ (ℓ + size s₀))
forgotten (if b sₜ s) ℓ = rw (forgotten sₜ (ℓ + 1), forgotten s (ℓ + 1 + size sₜ + 1), append_assoc) refl
forgotten (while b sₜ) ℓ = rw (forgotten sₜ (ℓ + 1)) refl

pub compiled_code : {s : Stm} {ℓ ℓ' : ℕ} {sc : SCode} → Compiles s ℓ sc ℓ' → U sc ≡ compile s ℓ
compiled_code {s} {ℓ} c = ap U (known c).code ∙ forgotten s ℓ

pub length_compile : (s : Stm) (ℓ : ℕ) → length (compile s ℓ) ≡ size s
unfolding compile size
length_compile skip ℓ = refl
length_compile (assign x a) ℓ = refl
length_compile (seq s₀ s₁) ℓ = simp (length-append, length_compile s₀, length_compile s₁)
length_compile (if b sₜ s) ℓ = simp (length-append, length_compile sₜ, length_compile s) (omega arith)
length_compile (while b sₜ) ℓ = simp (length-append, length_compile sₜ) (omega arith)

-- ---- labels without gaps

-- the labels of the code are ℓ, ℓ + 1 and so on
unfoldable pub From : ℕ → Code → Type 0
From ℓ [] = Unit {0}
From ℓ (li ∷ c) = (li.0 ≡ ℓ) × From (ℓ + 1) c

from_label : {ℓ m : ℕ} (c : Code) → ℓ ≡ m → From ℓ c → From m c
from_label c e f = subst (λ (i : ℕ). From i c) e f

from_append : (ℓ : ℕ) (c d : Code) → From ℓ c → From (ℓ + length c) d → From ℓ (c ++ d)
unfolding From
from_append ℓ [] d f g = from_label {ℓ = ℓ + 0} d (omega arith) g
from_append ℓ (li ∷ c) d f g = (f.0, from_append (ℓ + 1) c d f.1 (from_label {ℓ = ℓ + suc (length c)} d (omega arith) g))

pub compile_from : (s : Stm) (ℓ : ℕ) → From ℓ (compile s ℓ)
unfolding From compile
compile_from skip ℓ = tt
compile_from (assign x a) ℓ = (refl, tt)
compile_from (seq s₀ s₁) ℓ =
    from_append ℓ (compile s₀ ℓ) _ (compile_from s₀ ℓ)
    (from_label (compile s₁ (ℓ + size s₀)) (ap (λ (i : ℕ). ℓ + i) (sym (length_compile s₀ ℓ))) (compile_from s₁ (ℓ + size s₀)))
compile_from (if b sₜ s) ℓ =
    let m : ℕ = ℓ + 1 + size sₜ in
    let after : ℕ = ℓ + 1 + length (compile sₜ (ℓ + 1)) in
    let at-m : m ≡ after = ap (λ (i : ℕ). ℓ + 1 + i) (sym (length_compile sₜ (ℓ + 1))) in
    let otherwise : From (after + 1) (compile s (m + 1)) = from_label (compile s (m + 1)) (ap (λ (i : ℕ). i + 1) at-m) (compile_from s (m + 1)) in
    (refl, from_append (ℓ + 1) (compile sₜ (ℓ + 1)) _ (compile_from sₜ (ℓ + 1)) (at-m, otherwise))
compile_from (while b sₜ) ℓ =
    (refl, from_append (ℓ + 1) (compile sₜ (ℓ + 1)) _ (compile_from sₜ (ℓ + 1)) (ap (λ (i : ℕ). ℓ + 1 + i) (sym (length_compile sₜ (ℓ + 1))), tt))

pub from_within : (ℓ : ℕ) (c : Code) → From ℓ c → {m : ℕ} {i : Instr} → (m, i) ∈ c → (ℓ ≤ m) × (m < ℓ + length c)
unfolding From
from_within ℓ [] f h = absurd (Memᴰ.not-nil h)
from_within ℓ (li ∷ c) f {m} {i} h = go (λ k. from_within (ℓ + 1) c f.1 k) (Memᴰ.cases_cons h)
  where
    go : ((m, i) ∈ c → (ℓ + 1 ≤ m) × (m < ℓ + 1 + length c)) → (◌≡◌ {A = ℕ × Instr} (m, i) li) ⊎ ((m, i) ∈ c) → (ℓ ≤ m) × (m < ℓ + suc (length c))
    go rec (inl e) = let label : m ≡ li.0 = ap (λ (x : ℕ × Instr). x.0) e in (omega (arith, f.0), omega (arith, f.0))
    go rec (inr k) = (omega (arith, (rec k).0), omega (arith, (rec k).1))

pub from_wellformed : (ℓ : ℕ) (c : Code) → From ℓ c → Wellformed c
unfolding From
from_wellformed ℓ [] f m i j h k = absurd (Memᴰ.not-nil h)
from_wellformed ℓ (li ∷ c) f m i j h k = go (from_wellformed (ℓ + 1) c f.1) (Memᴰ.cases_cons h) (Memᴰ.cases_cons k)
  where
    go : Wellformed c → (◌≡◌ {A = ℕ × Instr} (m, i) li) ⊎ ((m, i) ∈ c) → (◌≡◌ {A = ℕ × Instr} (m, j) li) ⊎ ((m, j) ∈ c) → i ≡ j
    go rest (inl e) (inl e') = ap (λ (x : ℕ × Instr). x.1) (e ∙ sym e')
    go rest (inl e) (inr k') = let label : m ≡ li.0 = ap (λ (x : ℕ × Instr). x.0) e in absurd (omega (arith, f.0, (from_within (ℓ + 1) c f.1 k').0))
    go rest (inr h') (inl e') = let label : m ≡ li.0 = ap (λ (x : ℕ × Instr). x.0) e' in absurd (omega (arith, f.0, (from_within (ℓ + 1) c f.1 h').0))
    go rest (inr h') (inr k') = rest m i j h' k'

pub from_dom : (ℓ : ℕ) (c : Code) → From ℓ c → (m : ℕ) → ℓ ≤ m → m < ℓ + length c → InDom c m
unfolding From
from_dom ℓ [] f m p q = absurd (omega arith)
from_dom ℓ (li ∷ c) f m p q = go (ltb ℓ m) refl (λ h. from_dom (ℓ + 1) c f.1 m (omega arith) (omega arith))
  where
    go : (b : Bool) → ltb ℓ m ≡ b → (ℓ < m → InDom c m) → InDom (li ∷ c) m
    go true e rest = let d : InDom c m = rest (ltb-true ℓ m e) in (d.0, Memᴰ.tail d.1)
    go false e rest =
        let here : m ≡ li.0 = omega (arith, f.0, ltb-false ℓ m e) in
        (li.1, Memᴰ.head (λ k. (here k, li.1)))

-- a compiled piece bears exactly the labels from its start up to its end
pub compile_dom : (s : Stm) (ℓ m : ℕ) → InDom (compile s ℓ) m ↔ (ℓ ≤ m) × (m < ℓ + size s)
compile_dom s ℓ m = (
  λ d. rw length_compile at (from_within ℓ (compile s ℓ) (compile_from s ℓ) d.1),
  λ h. from_dom ℓ (compile s ℓ) (compile_from s ℓ) m h.0 (rw length_compile h.1),
)

pub compile_wellformed : (s : Stm) (ℓ : ℕ) → Wellformed (compile s ℓ)
compile_wellformed s ℓ = from_wellformed ℓ (compile s ℓ) (compile_from s ℓ)

-- ---- Lemma 14

-- U forgets no label and adds none
pub dom_code : (sc : SCode) (m : ℕ) → Dom sc m ↔ InDom (U sc) m
unfolding Dom U
dom_code (single ℓ i) m = (λ e. (i, Memᴰ.head (λ k. (e k, i))), λ d. ap (λ (x : ℕ × Instr). x.0) (Memᴰ.eq_of_singleton d.1))
dom_code 𝟎 m = (λ d. absurd d, λ d. Memᴰ.not-nil d.1)
dom_code (sc₀ ⊕ sc₁) m = (
  ⊎_elim (λ d. let e : InDom (U sc₀) m = (dom_code sc₀ m).0 d in (e.0, Memᴰ.append_left (U sc₁) e.1))
      (λ d. let e : InDom (U sc₁) m = (dom_code sc₁ m).0 d in (e.0, Memᴰ.append_right (U sc₀) e.1)),
  λ d. ⊎_elim (λ h. inl ((dom_code sc₀ m).1 (d.0, h))) (λ h. inr ((dom_code sc₁ m).1 (d.0, h))) (Memᴰ.append_cases (U sc₀) d.1),
)

-- Lemma 14: the domain is the interval from the start label up to the end label
pub record Interval (ℓ : ℕ) (sc : SCode) (ℓ' : ℕ) : Type 0 where
  pub ordered : ℓ ≤ ℓ'
  pub inside : (m : ℕ) → Dom sc m → (ℓ ≤ m) × (m < ℓ')
  pub filled : (m : ℕ) → ℓ ≤ m → m < ℓ' → Dom sc m

pub interval : {s : Stm} {ℓ ℓ' : ℕ} {sc : SCode} → Compiles s ℓ sc ℓ' → Interval ℓ sc ℓ'
interval {s} {ℓ} {ℓ'} {sc} c =
    let end : ℓ' ≡ ℓ + size s = (known c).end in
    let code : U sc ≡ compile s ℓ = compiled_code c in
    record {
      ordered = omega arith;
      inside = λ m d. let h = (compile_dom s ℓ m).0 (subst (λ (x : Code). InDom x m) code ((dom_code sc m).0 d)) in (h.0, omega (arith, h.1));
      filled = λ m p q. (dom_code sc m).1 (subst (λ (x : Code). InDom x m) (sym code) ((compile_dom s ℓ m).1 (p, omega arith)));
    }

pub compiled_wellformed : {s : Stm} {ℓ ℓ' : ℕ} {sc : SCode} → Compiles s ℓ sc ℓ' → WellformedS sc
unfolding WellformedS Dom
compiled_wellformed assign_c = tt
compiled_wellformed skip_c = tt
compiled_wellformed (seq_c c₀ c₁) =
    let i₀ = interval c₀ in let i₁ = interval c₁ in
    (compiled_wellformed c₀, compiled_wellformed c₁, λ m d₀ d₁. omega (arith, (i₀.inside m d₀).1, (i₁.inside m d₁).0))
compiled_wellformed (if_c c₀ c₁) =
    let i₀ = interval c₀ in let i₁ = interval c₁ in (
      tt,
      (
        (compiled_wellformed c₀, tt, λ m d e. omega (arith, (i₀.inside m d).1)),
        compiled_wellformed c₁,
        λ m d d₁. ⊎_elim (λ d₀. omega (arith, (i₀.inside m d₀).1, (i₁.inside m d₁).0)) (λ e. omega (arith, (i₁.inside m d₁).0)) d,
      ),
      λ m e d. ⊎_elim (λ d₀. ⊎_elim (λ d₁. omega (arith, (i₀.inside m d₁).0)) (λ e₁. omega (arith, i₀.ordered)) d₀) (λ d₁. omega (arith, i₀.ordered, (i₁.inside m d₁).0)) d,
    )
compiled_wellformed (while_c c₀) =
    let i₀ = interval c₀ in (
      tt,
      (compiled_wellformed c₀, tt, λ m d e. omega (arith, (i₀.inside m d).1)),
      λ m e d. ⊎_elim (λ d₀. omega (arith, (i₀.inside m d₀).0)) (λ e₁. omega (arith, i₀.ordered)) d,
    )

-- ---- pieces without labels: "it comes from two skips in sequence as well"

pub data Skips : Stm → Type 0 where
  one_skip : Skips skip
  skips_in_sequence : {s₀ s₁ : Stm} → Skips s₀ → Skips s₁ → Skips (seq s₀ s₁)

no_size : {s : Stm} → Skips s → size s ≡ 0
unfolding size
no_size one_skip = refl
no_size (skips_in_sequence k₀ k₁) = omega (arith, no_size k₀, no_size k₁)

only_skips : (s : Stm) → size s ≡ 0 → Skips s
unfolding size
only_skips skip e = one_skip
only_skips (assign x a) e = absurd (omega arith)
only_skips (seq s₀ s₁) e = skips_in_sequence (only_skips s₀ (omega arith)) (only_skips s₁ (omega arith))
only_skips (if b sₜ s) e = absurd (omega arith)
only_skips (while b sₜ) e = absurd (omega arith)

-- a compiled piece has no labels exactly if its statement is made of skips in sequence
pub no_labels : {s : Stm} {ℓ ℓ' : ℕ} {sc : SCode} → Compiles s ℓ sc ℓ' → ((m : ℕ) → Dom sc m → ⊥) ↔ Skips s
no_labels {s} {ℓ} {ℓ'} {sc} c =
    let i = interval c in let end : ℓ' ≡ ℓ + size s = (known c).end in (
      λ none. only_skips s (go (size s) refl none),
      λ k m d. omega (arith, (i.inside m d).0, (i.inside m d).1, no_size k),
    )
  where
    go : (n : ℕ) → size s ≡ n → ((m : ℕ) → Dom sc m → ⊥) → size s ≡ 0
    go zero e none = e
    go (suc n) e none = absurd (none ℓ ((interval c).filled ℓ (omega arith) (omega (arith, (known c).end))))

pub two_skips : {ℓ : ℕ} → Compiles (seq skip skip) ℓ (𝟎 ⊕ 𝟎) ℓ
two_skips = seq_c skip_c skip_c
