-- The code run follows Fig. 1: determinacy, stuck states and extension of the domain (Lemmas 1 to 3), and the run within fuel as a
-- sequence of published steps of the length it says. Assumes nothing.
use mathlib.Core.Path.{◌≡◌, refl, sym, ap, ap₂, ◌∙◌}
use Prim.Native.Nat.{ℕ, zero, suc, ◌+◌, ◌-◌, ◌≤◌}
use native.Mathlib.Omega.{arith}
use mathlib.Core.Bool.{Bool, true, false}
use mathlib.Core.List.Memᴰ
use mathlib.Core.List.{[], ◌∷◌}
use mathlib.Core.Logic.{◌⊎◌, inl, inr, ◌↔◌}
use mathlib.Core.Option.{Option, none, some}
use lib.Dec.{eqb}
use lib.ListN.{length, length-set}
use borrow.Author.Tests.{eq-eqb, ne_eqb, eqb-true, eqb-false}
use Rattle.rules.specs.Lists.{fetch}
use Rattle.rules.specs.Expression.{Store}
use Rattle.rules.specs.While.{Meaning}
use Rattle.rules.specs.Goto.{Instr, ◌≔◌, goto, ifnot, Code, ◌∈◌, InDom, Wellformed, Step, assign_ss, goto_ss}
use Rattle.rules.specs.Goto.{ifngoto_tt_ss, ifngoto_ff_ss, Steps, none_yet, one_more, Stuck, Halted, finished}
use Rattle.rules.specs.Goto.{out, next_label, next_store, run}

-- ---- what is fetched, and what is in the code

pub fetch_here : (ℓ : ℕ) (i : Instr) (c : Code) → fetch ((ℓ, i) ∷ c) ℓ ≡ some i
unfolding fetch
fetch_here ℓ i c = rw (eq-eqb ℓ ℓ refl, fetch)

pub fetch_past : (m : ℕ) (i : Instr) (c : Code) (ℓ : ℕ) → (m ≡ ℓ → ⊥) → fetch ((m, i) ∷ c) ℓ ≡ fetch c ℓ
unfolding fetch
fetch_past m i c ℓ ne = rw (ne_eqb m ℓ ne, fetch)

same_pair : {ℓ m : ℕ} {i j : Instr} → ℓ ≡ m → i ≡ j → ◌≡◌ {A = ℕ × Instr} (ℓ, i) (m, j)
same_pair p q = λ k. (p k, q k)

pub fetched_in : (c : Code) (ℓ : ℕ) (i : Instr) → fetch c ℓ ≡ some i → (ℓ, i) ∈ c
unfolding fetch
fetched_in [] ℓ i e = let z : ◌≡◌ {A = ℕ} 0 1 = cc in absurd (omega arith)
fetched_in (lj ∷ c) ℓ i e = go (λ h. fetched_in c ℓ i h) (eqb lj.0 ℓ) refl
  where
    go : (fetch c ℓ ≡ some i → (ℓ, i) ∈ c) → (b : Bool) → eqb lj.0 ℓ ≡ b → (ℓ, i) ∈ (lj ∷ c)
    go rec true q =
        let label : lj.0 ≡ ℓ = eqb-true lj.0 ℓ q in
        let here : some lj.1 ≡ some i = sym (fetch_here lj.0 lj.1 c) ∙ ap (fetch (lj ∷ c)) label ∙ e in
        Memᴰ.head (same_pair (sym label) (sym (let same : lj.1 ≡ i = cc in same)))
    go rec false q = Memᴰ.tail (rec (sym (fetch_past lj.0 lj.1 c ℓ (eqb-false lj.0 ℓ q)) ∙ e))

-- an instruction of the code leaves nothing unfetched at its label
pub in_fetched : (c : Code) (ℓ : ℕ) (i : Instr) → (ℓ, i) ∈ c → (j : Instr) × (fetch c ℓ ≡ some j)
in_fetched [] ℓ i h = absurd (Memᴰ.not-nil h)
in_fetched (lj ∷ c) ℓ i h = go (λ k. in_fetched c ℓ i k) (Memᴰ.cases_cons h) (eqb lj.0 ℓ) refl
  where
    go : ((ℓ, i) ∈ c → (j : Instr) × (fetch c ℓ ≡ some j)) → (◌≡◌ {A = ℕ × Instr} (ℓ, i) lj) ⊎ ((ℓ, i) ∈ c) → (b : Bool)
        → eqb lj.0 ℓ ≡ b → (j : Instr) × (fetch (lj ∷ c) ℓ ≡ some j)
    go rec d true q = (lj.1, ap (fetch (lj ∷ c)) (sym (eqb-true lj.0 ℓ q)) ∙ fetch_here lj.0 lj.1 c)
    go rec (inl e) false q = absurd (eqb-false lj.0 ℓ q (sym (ap (λ (x : ℕ × Instr). x.0) e)))
    go rec (inr k) false q = ((rec k).0, fetch_past lj.0 lj.1 c ℓ (eqb-false lj.0 ℓ q) ∙ (rec k).1)

pub fetches : (c : Code) → Wellformed c → (ℓ : ℕ) (i : Instr) → (ℓ, i) ∈ c → fetch c ℓ ≡ some i
fetches c wf ℓ i h =
    let found : (j : Instr) × (fetch c ℓ ≡ some j) = in_fetched c ℓ i h in
    let same : found.0 ≡ i = wf ℓ found.0 i (fetched_in c ℓ found.0 found.1) h in
    found.1 ∙ ap some same

-- nothing is fetched exactly outside the domain
pub outside : (c : Code) (ℓ : ℕ) → (InDom c ℓ → ⊥) → fetch c ℓ ≡ none
outside c ℓ no-instr = go (fetch c ℓ) refl
  where
    go : (o : Option Instr) → fetch c ℓ ≡ o → fetch c ℓ ≡ none
    go none e = e
    go (some i) e = absurd (no-instr (i, fetched_in c ℓ i e))

pub unfetched : (c : Code) (ℓ : ℕ) → fetch c ℓ ≡ none → InDom c ℓ → ⊥
unfetched c ℓ e d =
    let found : (j : Instr) × (fetch c ℓ ≡ some j) = in_fetched c ℓ d.0 d.1 in
    let clash : none ≡ some found.0 = sym e ∙ found.1 in
    let z : ◌≡◌ {A = ℕ} 0 1 = cc in omega arith

-- the store that a run left
abbrev pub store_of : Halted → Store
store_of (finished ℓ σ left) = σ
store_of (out ℓ σ) = σ

-- ---- Lemmas 1 to 3

module _ (M : Meaning) where
  -- what a step does is what its instruction says
  pub data Takes (c : Code) (ℓ : ℕ) (σ : Store) (ℓ' : ℕ) (σ' : Store) : Type 0 where
    takes : (i : Instr) → (ℓ, i) ∈ c → ℓ' ≡ next_label M i ℓ σ → σ' ≡ next_store M i σ → Takes c ℓ σ ℓ' σ'

  pub taken : {c : Code} {ℓ ℓ' : ℕ} {σ σ' : Store} → Step M c ℓ σ ℓ' σ' → Takes c ℓ σ ℓ' σ'
  unfolding next_label next_store
  taken (assign_ss {x = x} {a = a} h) = takes (x ≔ a) h refl refl
  taken (goto_ss {m = m} h) = takes (goto m) h refl refl
  taken (ifngoto_tt_ss {b = b} {m = m} h t) = takes (ifnot b m) h (rw (t, next_label)) refl
  taken (ifngoto_ff_ss {b = b} {m = m} h t) = takes (ifnot b m) h (rw (t, next_label)) refl

  branches : (c : Code) (ℓ b m : ℕ) (σ : Store) → (ℓ, ifnot b m) ∈ c → (v : Bool) → M.holds b σ ≡ v
      → Step M c ℓ σ (elim v [ true ↦ ℓ + 1 | false ↦ m ]) σ
  branches c ℓ b m σ h true t = ifngoto_tt_ss h t
  branches c ℓ b m σ h false t = ifngoto_ff_ss h t

  pub can_step : {c : Code} {ℓ : ℕ} (σ : Store) (i : Instr) → (ℓ, i) ∈ c → Step M c ℓ σ (next_label M i ℓ σ) (next_store M i σ)
  unfolding next_label next_store
  can_step σ (x ≔ a) h = assign_ss h
  can_step σ (goto m) h = goto_ss h
  can_step {c} {ℓ} σ (ifnot b m) h = branches c ℓ b m σ h (M.holds b σ) refl

  same_taken : {c : Code} → Wellformed c → {ℓ ℓ' ℓ'' : ℕ} {σ σ' σ'' : Store} → Takes c ℓ σ ℓ' σ' → Takes c ℓ σ ℓ'' σ'' → (ℓ' ≡ ℓ'') × (σ' ≡ σ'')
  same_taken wf {ℓ = ℓ} (takes i h p q) (takes j k r s) = let same : i ≡ j = wf ℓ i j h k in (cc, cc)

  -- Lemma 1 (determinacy)
  pub step_deterministic : {c : Code} → Wellformed c → {ℓ ℓ' ℓ'' : ℕ} {σ σ' σ'' : Store} → Step M c ℓ σ ℓ' σ' → Step M c ℓ σ ℓ'' σ''
      → (ℓ' ≡ ℓ'') × (σ' ≡ σ'')
  step_deterministic wf a b = same_taken wf (taken a) (taken b)

  pub bears : {c : Code} {ℓ ℓ' : ℕ} {σ σ' : Store} → Takes c ℓ σ ℓ' σ' → InDom c ℓ
  bears (takes i h p q) = (i, h)

  -- Lemma 2 (stuck states)
  pub stuck_outside : (c : Code) (ℓ : ℕ) (σ : Store) → Stuck M c ℓ σ ↔ (InDom c ℓ → ⊥)
  stuck_outside c ℓ σ = (λ stuck d. stuck _ _ (can_step σ d.0 d.1), λ no-instr ℓ' σ' s. no-instr (bears (taken s)))

  step_by : {c : Code} {ℓ ℓ' : ℕ} {σ σ' : Store} (i : Instr) → (ℓ, i) ∈ c → ℓ' ≡ next_label M i ℓ σ → σ' ≡ next_store M i σ → Step M c ℓ σ ℓ' σ'
  step_by {σ = σ} i h p q = rw (p, q) (can_step σ i h)

  pub extend : {c₀ c₁ : Code} → ((ℓ : ℕ) (i : Instr) → (ℓ, i) ∈ c₀ → (ℓ, i) ∈ c₁) → {ℓ ℓ' : ℕ} {σ σ' : Store} → Takes c₀ ℓ σ ℓ' σ'
      → Step M c₁ ℓ σ ℓ' σ'
  extend more {ℓ = ℓ} (takes i h p q) = step_by i (more ℓ i h) p q

  restrict : {c₀ c₁ : Code} → ((ℓ : ℕ) (i : Instr) → (ℓ, i) ∈ c₀ → (ℓ, i) ∈ c₁) → Wellformed c₁ → {ℓ ℓ' : ℕ} {σ σ' : Store}
      → InDom c₀ ℓ → Takes c₁ ℓ σ ℓ' σ' → Step M c₀ ℓ σ ℓ' σ'
  restrict more wf {ℓ = ℓ} d (takes i h p q) =
      let same : d.0 ≡ i = wf ℓ d.0 i (more ℓ d.0 d.1) h in
      step_by d.0 d.1 (rw same p) (rw same q)

  -- Lemma 3 (extension of the domain)
  pub extension : {c₀ c₁ : Code} → ((ℓ : ℕ) (i : Instr) → (ℓ, i) ∈ c₀ → (ℓ, i) ∈ c₁) → Wellformed c₁ → {ℓ : ℕ} → InDom c₀ ℓ
      → {ℓ' : ℕ} {σ σ' : Store} → Step M c₀ ℓ σ ℓ' σ' ↔ Step M c₁ ℓ σ ℓ' σ'
  extension more wf d = (λ s. extend more (taken s), λ s. restrict more wf d (taken s))

  -- ---- the run

  -- what a run with fuel n says of Fig. 1
  pub data RunSays (c : Code) (n ℓ : ℕ) (σ : Store) : Halted → Type 0 where
    finishes : {ℓ' : ℕ} {σ' : Store} (k left : ℕ) → Steps M c k ℓ σ ℓ' σ' → k + left ≡ n → fetch c ℓ' ≡ none → RunSays c n ℓ σ (finished ℓ' σ' left)
    runs_out : {ℓ' : ℕ} {σ' : Store} (i : Instr) → Steps M c n ℓ σ ℓ' σ' → fetch c ℓ' ≡ some i → RunSays c n ℓ σ (out ℓ' σ')

  step_first : {c : Code} {n ℓ ℓ'' : ℕ} {σ σ'' : Store} {h : Halted} → Step M c ℓ σ ℓ'' σ'' → RunSays c n ℓ'' σ'' h → RunSays c (suc n) ℓ σ h
  step_first s (finishes k left r e f) = finishes (suc k) left (one_more s r) (omega arith) f
  step_first s (runs_out i r f) = runs_out i (one_more s r) f

  -- the run takes as many published steps as it says, and finishes exactly where no instruction bears the label
  pub run_says : (c : Code) (n ℓ : ℕ) (σ : Store) → RunSays c n ℓ σ (run M c n ℓ σ)
  unfolding run
  run_says c zero ℓ σ = go (fetch c ℓ) refl
    where
      go : (o : Option Instr) → fetch c ℓ ≡ o → RunSays c zero ℓ σ (elim o [ none ↦ finished ℓ σ zero | some i ↦ out ℓ σ ])
      go none e = finishes zero zero none_yet refl e
      go (some i) e = runs_out i none_yet e
  run_says c (suc n) ℓ σ = go (λ ℓ'' σ''. run_says c n ℓ'' σ'') (fetch c ℓ) refl
    where
      go : ((ℓ'' : ℕ) (σ'' : Store) → RunSays c n ℓ'' σ'' (run M c n ℓ'' σ'')) → (o : Option Instr) → fetch c ℓ ≡ o
          → RunSays c (suc n) ℓ σ (elim o [ none ↦ finished ℓ σ (suc n) | some i ↦ run M c n (next_label M i ℓ σ) (next_store M i σ) ])
      go rec none e = finishes zero (suc n) none_yet (omega arith) e
      go rec (some i) e = step_first (can_step σ i (fetched_in c ℓ i e)) (rec (next_label M i ℓ σ) (next_store M i σ))

  -- one step of the run
  pub run_step : (c : Code) (n ℓ : ℕ) (σ : Store) (i : Instr) → fetch c ℓ ≡ some i
      → run M c (suc n) ℓ σ ≡ run M c n (next_label M i ℓ σ) (next_store M i σ)
  unfolding run
  run_step c n ℓ σ i e = rw (e, run) refl

  pub run_out : (c : Code) (ℓ : ℕ) (σ : Store) (i : Instr) → fetch c ℓ ≡ some i → run M c zero ℓ σ ≡ out ℓ σ
  unfolding run
  run_out c ℓ σ i e = rw (e, run) refl

  -- the finish is tested before the fuel
  pub run_finished : (c : Code) (n ℓ : ℕ) (σ : Store) → fetch c ℓ ≡ none → run M c n ℓ σ ≡ finished ℓ σ n
  unfolding run
  run_finished c zero ℓ σ e = rw (e, run) refl
  run_finished c (suc n) ℓ σ e = rw (e, run) refl

  -- published steps, and then the run from where they lead
  pub run_steps : {c : Code} → Wellformed c → {k ℓ ℓ' : ℕ} {σ σ' : Store} → Steps M c k ℓ σ ℓ' σ' → (m : ℕ) → run M c (k + m) ℓ σ ≡ run M c m ℓ' σ'
  run_steps {c} wf {ℓ = ℓ} {σ = σ} none_yet m = ap (λ (i : ℕ). run M c i ℓ σ) (omega arith)
  run_steps {c} wf {ℓ = ℓ} {σ = σ} (one_more {n = n} s r) m = go (taken s) _ (run_steps wf r m)
    where
      go : {ℓ'' : ℕ} {σ'' : Store} → Takes c ℓ σ ℓ'' σ'' → (h : Halted) → run M c (n + m) ℓ'' σ'' ≡ h → run M c (suc n + m) ℓ σ ≡ h
      go (takes i h p q) halted e =
          ap (λ (x : ℕ). run M c x ℓ σ) (let more : suc n + m ≡ suc (n + m) = omega arith in more)
          ∙ run_step c (n + m) ℓ σ i (fetches c wf ℓ i h)
          ∙ ap₂ (λ (x : ℕ) (y : Store). run M c (n + m) x y) (sym p) (sym q)
          ∙ e

  -- ---- a run keeps the number of values in the store

  pub next_length : (i : Instr) (σ : Store) → length (next_store M i σ) ≡ length σ
  unfolding next_store
  next_length (x ≔ a) σ = length-set σ x _
  next_length (goto m) σ = refl
  next_length (ifnot b m) σ = refl

  step_length : {c : Code} {ℓ ℓ' : ℕ} {σ σ' : Store} → Takes c ℓ σ ℓ' σ' → length σ' ≡ length σ
  step_length {σ = σ} (takes i h p q) = ap length q ∙ next_length i σ

  steps_length : {c : Code} {n ℓ ℓ' : ℕ} {σ σ' : Store} → Steps M c n ℓ σ ℓ' σ' → length σ' ≡ length σ
  steps_length none_yet = refl
  steps_length (one_more s r) = steps_length r ∙ step_length (taken s)

  said_length : {c : Code} {n ℓ : ℕ} {σ : Store} (h : Halted) → RunSays c n ℓ σ h → length (store_of h) ≡ length σ
  said_length (finished ℓ' σ' left) (finishes k l r e f) = steps_length r
  said_length (out ℓ' σ') (runs_out i r f) = steps_length r

  pub run_length : (c : Code) (n ℓ : ℕ) (σ : Store) → length (store_of (run M c n ℓ σ)) ≡ length σ
  run_length c n ℓ σ = said_length (run M c n ℓ σ) (run_says c n ℓ σ)

  -- ---- the same, for a reader of answers: the steps reported are the published steps taken

  pub record Finished (c : Code) (n ℓ : ℕ) (σ : Store) (ℓ' : ℕ) (σ' : Store) (left : ℕ) : Type 0 where
    pub steps : Steps M c (n - left) ℓ σ ℓ' σ'
    pub within : left ≤ n
    pub stuck : InDom c ℓ' → ⊥

  pub record RunOut (c : Code) (n ℓ : ℕ) (σ : Store) (ℓ' : ℕ) (σ' : Store) : Type 0 where
    pub steps : Steps M c n ℓ σ ℓ' σ'
    pub goes_on : InDom c ℓ'

  same_steps : {c : Code} {k n ℓ ℓ₁ ℓ' : ℕ} {σ σ₁ σ' : Store} → k ≡ n → ℓ₁ ≡ ℓ' → σ₁ ≡ σ' → Steps M c k ℓ σ ℓ₁ σ₁ → Steps M c n ℓ σ ℓ' σ'
  same_steps p q r s = rw (← p, ← q, ← r) s

  finished_by : {c : Code} {n ℓ : ℕ} {σ : Store} {h : Halted} → RunSays c n ℓ σ h → {ℓ' : ℕ} {σ' : Store} {left : ℕ}
      → h ≡ finished ℓ' σ' left → Finished c n ℓ σ ℓ' σ' left
  finished_by {c} {n} (finishes {ℓ' = ℓ₁} {σ' = σ₁} k m r e f) {ℓ'} {σ'} {left} q =
      let label : ℓ₁ ≡ ℓ' = cc in let store : σ₁ ≡ σ' = cc in let fuel : m ≡ left = cc in let taken : k ≡ n - left = omega arith in
      record { steps = same_steps taken label store r; within = omega arith; stuck = unfetched c ℓ' (ap (fetch c) (sym label) ∙ f) }
  finished_by (runs_out {ℓ' = ℓ₁} {σ' = σ₁} i r f) q = let z : ◌≡◌ {A = ℕ} 0 1 = cc in absurd (omega arith)

  out_by : {c : Code} {n ℓ : ℕ} {σ : Store} {h : Halted} → RunSays c n ℓ σ h → {ℓ' : ℕ} {σ' : Store} → h ≡ out ℓ' σ' → RunOut c n ℓ σ ℓ' σ'
  out_by (finishes {ℓ' = ℓ₁} {σ' = σ₁} k m r e f) q = let z : ◌≡◌ {A = ℕ} 0 1 = cc in absurd (omega arith)
  out_by {c} (runs_out {ℓ' = ℓ₁} {σ' = σ₁} i r f) {ℓ'} {σ'} q =
      let label : ℓ₁ ≡ ℓ' = cc in let store : σ₁ ≡ σ' = cc in
      record { steps = same_steps refl label store r; goes_on = (i, fetched_in c ℓ' i (ap (fetch c) (sym label) ∙ f)) }

  pub finished_steps : (c : Code) (n ℓ : ℕ) (σ : Store) → {ℓ' : ℕ} {σ' : Store} {left : ℕ} → run M c n ℓ σ ≡ finished ℓ' σ' left
      → Finished c n ℓ σ ℓ' σ' left
  finished_steps c n ℓ σ q = finished_by (run_says c n ℓ σ) q

  pub out_steps : (c : Code) (n ℓ : ℕ) (σ : Store) → {ℓ' : ℕ} {σ' : Store} → run M c n ℓ σ ≡ out ℓ' σ' → RunOut c n ℓ σ ℓ' σ'
  out_steps c n ℓ σ q = out_by (run_says c n ℓ σ) q
