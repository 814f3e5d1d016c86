-- SGoto: the natural semantics of Fig. 2 agrees with the steps of Fig. 1 on the code forgotten (Theorems 6 and 7), is deterministic and
-- ends outside its domain (Lemmas 4 and 5), and compilation preserves and reflects evaluations (Theorems 15 and 16). The last two come
-- from the simulation: it relates the While rules to Fig. 1, and Theorems 6 and 7 relate Fig. 1 to Fig. 2. Assumes nothing.
use mathlib.Core.Path.{◌≡◌, refl, sym, ap, ap₂, ◌∙◌}
use Prim.Native.Nat.{ℕ, zero, suc, ◌+◌, ◌<◌}
use native.Mathlib.Omega.{arith}
use native.Mathlib.Decide.{ℕ_discrete}
use mathlib.Core.Bool.{Bool, true, false}
use mathlib.Core.List.Memᴰ
use mathlib.Core.List.{[], ◌∷◌, ◌++◌}
use mathlib.Core.Logic.{◌⊎◌, inl, inr, ⊎_elim}
use mathlib.Core.Option.{none}
use Rattle.rules.specs.Lists.{fetch}
use Rattle.rules.specs.Expression.{Store}
use Rattle.rules.specs.While.{Stm, Meaning, Evaluates, count}
use Rattle.rules.specs.Goto.{Instr, ◌≔◌, goto, ifnot, Code, ◌∈◌, InDom, Wellformed, Steps, none_yet}
use Rattle.rules.specs.Goto.{one_more, Stuck, next_label, next_store, finished, run}
use Rattle.rules.specs.SGoto.{SCode, single, 𝟎, ◌⊕◌, Dom, WellformedS, U, EvaluatesS, assign_ns, goto_ns}
use Rattle.rules.specs.SGoto.{ifngoto_tt_ns, ifngoto_ff_ns, ⊕₀_ns, ⊕₁_ns, ood_ns}
use Rattle.rules.specs.Compilation.{Compiles, compile}
use Rattle.rules.proofs.GotoLaws.{Takes, takes, taken, can_step, bears, stuck_outside, extend, run_steps, run_finished, outside}
use Rattle.rules.proofs.CompilationLaws.{known, compiled_code, compile_wellformed, dom_code, interval, compiled_wellformed}
use Rattle.rules.proofs.Simulation.{reaches, piece_contains, demand_3}

-- a label is in the domain of a piece or not
pub dom? : (sc : SCode) (m : ℕ) → Dec (Dom sc m)
unfolding Dom
dom? (single ℓ i) m = ℕ_discrete m ℓ
dom? 𝟎 m = no (λ d. d)
dom? (sc₀ ⊕ sc₁) m = either (dom? sc₀ m) (dom? sc₁ m)
  where
    either : Dec (Dom sc₀ m) → Dec (Dom sc₁ m) → Dec (Dom sc₀ m ⊎ Dom sc₁ m)
    either (yes d) e = yes (inl d)
    either (no n) (yes e) = yes (inr e)
    either (no n) (no k) = no (⊎_elim n k)

module _ (M : Meaning) where
  -- Lemma 5 (postlabels)
  pub postlabels : {sc : SCode} {ℓ ℓ' : ℕ} {σ σ' : Store} → EvaluatesS M sc ℓ σ ℓ' σ' → Dom sc ℓ' → ⊥
  unfolding Dom
  postlabels assign_ns d = omega arith
  postlabels (goto_ns ne) d = ne d
  postlabels (ifngoto_tt_ns h) d = omega arith
  postlabels (ifngoto_ff_ns h ne) d = ne d
  postlabels (⊕₀_ns h e r) d = postlabels r d
  postlabels (⊕₁_ns h e r) d = postlabels r d
  postlabels (ood_ns n) d = n d

  -- ---- Theorem 6

  -- a number of published steps
  abbrev pub Reduces : Code → ℕ → Store → ℕ → Store → Type 0
  Reduces c ℓ σ ℓ' σ' = (k : ℕ) × Steps M c k ℓ σ ℓ' σ'

  then_steps : {c : Code} {k n ℓ ℓ'' ℓ' : ℕ} {σ σ'' σ' : Store} → Steps M c k ℓ σ ℓ'' σ'' → Steps M c n ℓ'' σ'' ℓ' σ' → Reduces c ℓ σ ℓ' σ'
  then_steps {n = n} none_yet r = (n, r)
  then_steps (one_more s q) r = let t = then_steps q r in (suc t.0, one_more s t.1)

  more_steps : {c d : Code} → ((ℓ : ℕ) (i : Instr) → (ℓ, i) ∈ c → (ℓ, i) ∈ d) → {k ℓ ℓ' : ℕ} {σ σ' : Store}
      → Steps M c k ℓ σ ℓ' σ' → Steps M d k ℓ σ ℓ' σ'
  more_steps more none_yet = none_yet
  more_steps more (one_more s r) = one_more (extend M more (taken M s)) (more_steps more r)

  by_one : {ℓ : ℕ} {σ : Store} (i : Instr) → Reduces ((ℓ, i) ∷ []) ℓ σ (next_label M i ℓ σ) (next_store M i σ)
  by_one {σ = σ} i = (1, one_more (can_step M σ i (Memᴰ.head refl)) none_yet)

  reduces : {sc : SCode} {ℓ ℓ' : ℕ} {σ σ' : Store} → EvaluatesS M sc ℓ σ ℓ' σ' → Reduces (U sc) ℓ σ ℓ' σ'
  unfolding U next_label next_store
  reduces (assign_ns {x = x} {a = a}) = by_one (x ≔ a)
  reduces (goto_ns {m = m} ne) = by_one (goto m)
  reduces (ifngoto_tt_ns {ℓ = ℓ} {b = b} {m = m} {σ = σ} h) = rw (h, next_label) at (by_one {ℓ = ℓ} {σ = σ} (ifnot b m))
  reduces (ifngoto_ff_ns {ℓ = ℓ} {b = b} {m = m} {σ = σ} h ne) = rw (h, next_label) at (by_one {ℓ = ℓ} {σ = σ} (ifnot b m))
  reduces (⊕₀_ns {sc₁ = sc₁} d e r) = then_steps (more_steps (λ m i h. Memᴰ.append_left (U sc₁) h) (reduces e).1) (reduces r).1
  reduces (⊕₁_ns {sc₀ = sc₀} d e r) = then_steps (more_steps (λ m i h. Memᴰ.append_right (U sc₀) h) (reduces e).1) (reduces r).1
  reduces (ood_ns n) = (zero, none_yet)

  -- Theorem 6 (preservation of evaluations as stuck reduction sequences)
  pub evaluation_reduces : {sc : SCode} {ℓ ℓ' : ℕ} {σ σ' : Store} → EvaluatesS M sc ℓ σ ℓ' σ' → Reduces (U sc) ℓ σ ℓ' σ' × Stuck M (U sc) ℓ' σ'
  evaluation_reduces {sc} {ℓ' = ℓ'} {σ' = σ'} e = (reduces e, (stuck_outside M (U sc) ℓ' σ').1 (λ d. postlabels e ((dom_code sc ℓ').1 d)))

  -- ---- Theorem 7

  stays_put : {c : Code} {k ℓ ℓ' : ℕ} {σ σ' : Store} → Steps M c k ℓ σ ℓ' σ' → (InDom c ℓ → ⊥) → (ℓ ≡ ℓ') × (σ ≡ σ')
  stays_put none_yet n = (refl, refl)
  stays_put (one_more s r) n = absurd (n (bears M (taken M s)))

  evaluates_test : (ℓ b m : ℕ) (σ : Store) (v : Bool) → M.holds b σ ≡ v → (elim v [ true ↦ ℓ + 1 | false ↦ m ] ≡ ℓ → ⊥)
      → EvaluatesS M (single ℓ (ifnot b m)) ℓ σ (elim v [ true ↦ ℓ + 1 | false ↦ m ]) σ
  evaluates_test ℓ b m σ true h ne = ifngoto_tt_ns h
  evaluates_test ℓ b m σ false h ne = ifngoto_ff_ns h ne

  -- an instruction that leaves its label
  evaluates_one : (ℓ : ℕ) (i : Instr) (σ : Store) → (next_label M i ℓ σ ≡ ℓ → ⊥) → EvaluatesS M (single ℓ i) ℓ σ (next_label M i ℓ σ) (next_store M i σ)
  unfolding next_label next_store
  evaluates_one ℓ (x ≔ a) σ ne = assign_ns
  evaluates_one ℓ (goto m) σ ne = goto_ns ne
  evaluates_one ℓ (ifnot b m) σ ne = evaluates_test ℓ b m σ (M.holds b σ) refl ne

  -- one that does not changes nothing
  self_jump : (ℓ : ℕ) (i : Instr) (σ : Store) → next_label M i ℓ σ ≡ ℓ → next_store M i σ ≡ σ
  unfolding next_label next_store
  self_jump ℓ (x ≔ a) σ e = absurd (omega arith)
  self_jump ℓ (goto m) σ e = refl
  self_jump ℓ (ifnot b m) σ e = refl

  evaluates_at : {sc : SCode} {ℓ ℓ₁ ℓ' ℓ₂ : ℕ} {σ σ₁ σ' σ₂ : Store} → ℓ ≡ ℓ₁ → σ ≡ σ₁ → ℓ' ≡ ℓ₂ → σ' ≡ σ₂
      → EvaluatesS M sc ℓ σ ℓ' σ' → EvaluatesS M sc ℓ₁ σ₁ ℓ₂ σ₂
  evaluates_at p q r s e = rw (← p, ← q, ← r, ← s) e

  single_evaluates : (ℓ₀ : ℕ) (i : Instr) {k ℓ ℓ' : ℕ} {σ σ' : Store} → Steps M ((ℓ₀, i) ∷ []) k ℓ σ ℓ' σ' → (ℓ' ≡ ℓ₀ → ⊥)
      → EvaluatesS M (single ℓ₀ i) ℓ σ ℓ' σ'
  unfolding Dom
  single_evaluates ℓ₀ i none_yet ne = ood_ns ne
  single_evaluates ℓ₀ i {ℓ' = ℓ'} {σ' = σ'} (one_more {ℓ = ℓ} {ℓ'' = ℓ''} {σ = σ} {σ'' = σ''} s r) ne = go (taken M s) (single_evaluates ℓ₀ i r ne) (ℕ_discrete ℓ'' ℓ₀)
    where
      go : Takes M ((ℓ₀, i) ∷ []) ℓ σ ℓ'' σ'' → EvaluatesS M (single ℓ₀ i) ℓ'' σ'' ℓ' σ' → Dec (ℓ'' ≡ ℓ₀) → EvaluatesS M (single ℓ₀ i) ℓ σ ℓ' σ'
      go (takes j h p q) rest again =
          let pair : ◌≡◌ {A = ℕ × Instr} (ℓ, j) (ℓ₀, i) = Memᴰ.eq_of_singleton h in
          let label : ℓ ≡ ℓ₀ = ap (λ (x : ℕ × Instr). x.0) pair in
          let instr : j ≡ i = ap (λ (x : ℕ × Instr). x.1) pair in
          let to : ℓ'' ≡ next_label M i ℓ₀ σ = p ∙ ap₂ (λ (x : Instr) (y : ℕ). next_label M x y σ) instr label in
          let store : σ'' ≡ next_store M i σ = q ∙ ap (λ (x : Instr). next_store M x σ) instr in
          elim again [
            | yes e ↦ evaluates_at (e ∙ sym label) (store ∙ self_jump ℓ₀ i σ (sym to ∙ e)) refl refl rest
            | no n ↦
                let end = stays_put r (λ d. n (ap (λ (x : ℕ × Instr). x.0) (Memᴰ.eq_of_singleton d.1))) in
                evaluates_at (sym label) refl (sym to ∙ end.0) (sym store ∙ end.1) (evaluates_one ℓ₀ i σ (λ e. n (to ∙ e)))
          ]

  -- the steps of c up to where they leave the piece sc
  record Leaves (sc : SCode) (c : Code) (k ℓ : ℕ) (σ : Store) (ℓ' : ℕ) (σ' : Store) : Type 0 where
    label : ℕ
    store : Store
    taken_in : ℕ
    left : ℕ
    inner : Steps M (U sc) taken_in ℓ σ label store
    gone : Dom sc label → ⊥
    outer : Steps M c left label store ℓ' σ'
    sum : taken_in + left ≡ k
    some_taken : Dom sc ℓ → 0 < taken_in

  leaves : (sc : SCode) (c : Code) → ((m : ℕ) (i : Instr) → (m, i) ∈ c → Dom sc m → (m, i) ∈ U sc) → {k ℓ ℓ' : ℕ} {σ σ' : Store}
      → Steps M c k ℓ σ ℓ' σ' → (Dom sc ℓ' → ⊥) → Leaves sc c k ℓ σ ℓ' σ'
  leaves sc c own {ℓ = ℓ} {σ = σ} none_yet n =
      record { label = ℓ; store = σ; taken_in = zero; left = zero; inner = none_yet; gone = n; outer = none_yet; sum = refl; some_taken = λ d. absurd (n d) }
  leaves sc c own {ℓ' = ℓ'} {σ' = σ'} (one_more {n = k} {ℓ = ℓ} {ℓ'' = ℓ''} {σ = σ} {σ'' = σ''} s r) n = go (dom? sc ℓ) (taken M s) (leaves sc c own r n)
    where
      go : Dec (Dom sc ℓ) → Takes M c ℓ σ ℓ'' σ'' → Leaves sc c k ℓ'' σ'' ℓ' σ' → Leaves sc c (suc k) ℓ σ ℓ' σ'
      go (yes d) (takes i h p q) l = record {
        label = l.label;
        store = l.store;
        taken_in = suc l.taken_in;
        left = l.left;
        inner = one_more (extend M (λ m j g. g) (takes i (own ℓ i h d) p q)) l.inner;
        gone = l.gone;
        outer = l.outer;
        sum = omega (arith, l.sum);
        some_taken = λ e. omega arith;
      }
      go (no f) t l = record { label = ℓ; store = σ; taken_in = zero; left = suc k; inner = none_yet; gone = f; outer = one_more s r; sum = omega arith; some_taken = λ d. absurd (f d) }

  -- every reduction sequence of the piece that leaves its domain is an evaluation
  abbrev Reflects : SCode → Type 0
  Reflects sc = (k ℓ ℓ' : ℕ) (σ σ' : Store) → Steps M (U sc) k ℓ σ ℓ' σ' → (Dom sc ℓ' → ⊥) → EvaluatesS M sc ℓ σ ℓ' σ'

  module _ (sc₀ sc₁ : SCode) (apart : (m : ℕ) → Dom sc₀ m → Dom sc₁ m → ⊥) (first : Reflects sc₀) (second : Reflects sc₁) where
    own₀ : (m : ℕ) (i : Instr) → (m, i) ∈ (U sc₀ ++ U sc₁) → Dom sc₀ m → (m, i) ∈ U sc₀
    own₀ m i h d = ⊎_elim (λ g. g) (λ g. absurd (apart m d ((dom_code sc₁ m).1 (i, g)))) (Memᴰ.append_cases (U sc₀) h)

    own₁ : (m : ℕ) (i : Instr) → (m, i) ∈ (U sc₀ ++ U sc₁) → Dom sc₁ m → (m, i) ∈ U sc₁
    own₁ m i h d = ⊎_elim (λ g. absurd (apart m ((dom_code sc₀ m).1 (i, g)) d)) (λ g. g) (Memᴰ.append_cases (U sc₀) h)

    union_evaluates : (n k ℓ ℓ' : ℕ) (σ σ' : Store) → k < n → Steps M (U sc₀ ++ U sc₁) k ℓ σ ℓ' σ' → (Dom sc₀ ℓ' ⊎ Dom sc₁ ℓ' → ⊥)
        → EvaluatesS M (sc₀ ⊕ sc₁) ℓ σ ℓ' σ'
    unfolding Dom U
    union_evaluates zero k ℓ ℓ' σ σ' l r out = absurd (omega arith)
    union_evaluates (suc n) k ℓ ℓ' σ σ' l r out = go (λ j ℓ'' σ'' h q. union_evaluates n j ℓ'' ℓ' σ'' σ' h q out) (dom? sc₀ ℓ) (dom? sc₁ ℓ)
      where
        go : ((j ℓ'' : ℕ) (σ'' : Store) → j < n → Steps M (U sc₀ ++ U sc₁) j ℓ'' σ'' ℓ' σ' → EvaluatesS M (sc₀ ⊕ sc₁) ℓ'' σ'' ℓ' σ')
            → Dec (Dom sc₀ ℓ) → Dec (Dom sc₁ ℓ) → EvaluatesS M (sc₀ ⊕ sc₁) ℓ σ ℓ' σ'
        go rec (yes d) e =
            let p = leaves sc₀ (U sc₀ ++ U sc₁) own₀ r (λ h. out (inl h)) in
            ⊕₀_ns d (first _ _ _ _ _ p.inner p.gone) (rec p.left p.label p.store (omega (arith, p.sum, p.some_taken d)) p.outer)
        go rec (no f) (yes d) =
            let p = leaves sc₁ (U sc₀ ++ U sc₁) own₁ r (λ h. out (inr h)) in
            ⊕₁_ns d (second _ _ _ _ _ p.inner p.gone) (rec p.left p.label p.store (omega (arith, p.sum, p.some_taken d)) p.outer)
        go rec (no f) (no g) =
            let end = stays_put r (λ d. ⊎_elim f g ((dom_code (sc₀ ⊕ sc₁) ℓ).1 d)) in
            evaluates_at refl refl end.0 end.1 (ood_ns (⊎_elim f g))

  reflects : (sc : SCode) → WellformedS sc → Reflects sc
  unfolding U WellformedS Dom
  reflects (single ℓ₀ i) wf k ℓ ℓ' σ σ' r n = single_evaluates ℓ₀ i r n
  reflects 𝟎 wf k ℓ ℓ' σ σ' r n = let end = stays_put r (λ d. Memᴰ.not-nil d.1) in evaluates_at refl refl end.0 end.1 (ood_ns (λ d. d))
  reflects (sc₀ ⊕ sc₁) wf k ℓ ℓ' σ σ' r n =
      union_evaluates sc₀ sc₁ wf.2 (reflects sc₀ wf.0) (reflects sc₁ wf.1) (suc k) k ℓ ℓ' σ σ' (omega arith) r n

  -- Theorem 7 (reflection of stuck reduction sequences as evaluations)
  pub reduction_evaluates : (sc : SCode) → WellformedS sc → {ℓ ℓ' : ℕ} {σ σ' : Store} → Reduces (U sc) ℓ σ ℓ' σ' → Stuck M (U sc) ℓ' σ'
      → EvaluatesS M sc ℓ σ ℓ' σ'
  reduction_evaluates sc wf {ℓ} {ℓ'} {σ} {σ'} r stuck =
      reflects sc wf r.0 ℓ ℓ' σ σ' r.1 (λ d. (stuck_outside M (U sc) ℓ' σ').0 stuck ((dom_code sc ℓ').0 d))

  -- Lemma 4 (determinacy): two stuck sequences of a wellformed code end alike
  wellformed_code : (sc : SCode) → WellformedS sc → Wellformed (U sc)
  unfolding U WellformedS
  wellformed_code (single ℓ i) wf m j k p q = ap (λ (x : ℕ × Instr). x.1) (Memᴰ.eq_of_singleton p ∙ sym (Memᴰ.eq_of_singleton q))
  wellformed_code 𝟎 wf m j k p q = absurd (Memᴰ.not-nil p)
  wellformed_code (sc₀ ⊕ sc₁) wf m j k p q = go (wellformed_code sc₀ wf.0) (wellformed_code sc₁ wf.1) (Memᴰ.append_cases (U sc₀) p) (Memᴰ.append_cases (U sc₀) q)
    where
      go : Wellformed (U sc₀) → Wellformed (U sc₁) → ((m, j) ∈ U sc₀) ⊎ ((m, j) ∈ U sc₁) → ((m, k) ∈ U sc₀) ⊎ ((m, k) ∈ U sc₁) → j ≡ k
      go w₀ w₁ (inl a) (inl b) = w₀ m j k a b
      go w₀ w₁ (inl a) (inr b) = absurd (wf.2 m ((dom_code sc₀ m).1 (j, a)) ((dom_code sc₁ m).1 (k, b)))
      go w₀ w₁ (inr a) (inl b) = absurd (wf.2 m ((dom_code sc₀ m).1 (k, b)) ((dom_code sc₁ m).1 (j, a)))
      go w₀ w₁ (inr a) (inr b) = w₁ m j k a b

  gone_unfetched : {sc : SCode} {ℓ ℓ' : ℕ} {σ σ' : Store} → EvaluatesS M sc ℓ σ ℓ' σ' → fetch (U sc) ℓ' ≡ none
  gone_unfetched {sc} {ℓ' = ℓ'} e = outside (U sc) ℓ' (λ d. postlabels e ((dom_code sc ℓ').1 d))

  finishes_with : {sc : SCode} {ℓ ℓ' : ℕ} {σ σ' : Store} → WellformedS sc → (e : EvaluatesS M sc ℓ σ ℓ' σ') (m : ℕ)
      → run M (U sc) ((reduces e).0 + m) ℓ σ ≡ finished ℓ' σ' m
  finishes_with {sc} {ℓ' = ℓ'} {σ' = σ'} wf e m = run_steps M (wellformed_code sc wf) (reduces e).1 m ∙ run_finished M (U sc) m ℓ' σ' (gone_unfetched e)

  pub evaluation_deterministic : {sc : SCode} {ℓ ℓ' ℓ'' : ℕ} {σ σ' σ'' : Store} → WellformedS sc → EvaluatesS M sc ℓ σ ℓ' σ'
      → EvaluatesS M sc ℓ σ ℓ'' σ'' → (ℓ' ≡ ℓ'') × (σ' ≡ σ'')
  evaluation_deterministic {sc} {ℓ} {ℓ'} {ℓ''} {σ} {σ'} {σ''} wf a b =
      let swap : (reduces b).0 + (reduces a).0 ≡ (reduces a).0 + (reduces b).0 = omega arith in
      let other : run M (U sc) ((reduces a).0 + (reduces b).0) ℓ σ ≡ finished ℓ'' σ'' (reduces a).0 = rw swap at (finishes_with wf b (reduces a).0) in
      let same : finished ℓ' σ' (reduces b).0 ≡ finished ℓ'' σ'' (reduces a).0 = sym (finishes_with wf a (reduces b).0) ∙ other in
      (cc, cc)

  -- ---- Theorems 15 and 16

  -- Theorem 15 (preservation of evaluations)
  pub preservation : {s : Stm} {ℓ ℓ' : ℕ} {sc : SCode} {σ σ' : Store} → Compiles s ℓ sc ℓ' → Evaluates M s σ σ' → EvaluatesS M sc ℓ σ ℓ' σ'
  preservation {s} {ℓ} {ℓ'} {sc} {σ} {σ'} c d =
      let steps : Steps M (U sc) (count d) ℓ σ ℓ' σ' = rw (compiled_code c, (known c).end) (reaches M (compile s ℓ) s ℓ (piece_contains s ℓ) d) in
      reflects sc (compiled_wellformed c) (count d) ℓ ℓ' σ σ' steps (λ h. omega (arith, ((interval c).inside ℓ' h).1))

  -- Theorem 16 (reflection of evaluations)
  pub reflection : {s : Stm} {ℓ ℓ' ℓ'' : ℕ} {sc : SCode} {σ σ' : Store} → Compiles s ℓ sc ℓ' → EvaluatesS M sc ℓ σ ℓ'' σ'
      → (ℓ'' ≡ ℓ') × Evaluates M s σ σ'
  reflection {s} {ℓ} {ℓ'} {ℓ''} {sc} {σ} {σ'} c e =
      let r : Reduces (U sc) ℓ σ ℓ'' σ' = reduces e in
      let steps : Steps M (compile s ℓ) r.0 ℓ σ ℓ'' σ' = rw (compiled_code c) at r.1 in
      let gone : fetch (compile s ℓ) ℓ'' ≡ none = rw (compiled_code c) at (gone_unfetched e) in
      let ran : run M (compile s ℓ) (r.0 + 0) ℓ σ ≡ finished ℓ'' σ' 0 = run_steps M (compile_wellformed s ℓ) steps 0 ∙ run_finished M (compile s ℓ) 0 ℓ'' σ' gone in
      let told = (demand_3 M s ℓ (r.0 + 0) σ).finishes_only_if ran in
      (told.0 ∙ sym (known c).end, told.1.0)
