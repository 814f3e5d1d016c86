-- The source run within fuel decides the While rules: where it is done there is an evaluation whose count is the fuel spent, where it
-- stops the run is unfinished, and every evaluation is found by any run that has the fuel for it. Evaluation is deterministic, in store
-- and count (Lemma 22). Assumes nothing.
use mathlib.Core.Path.{◌≡◌, refl, sym, ap, subst, ◌∙◌}
use Prim.Native.Nat.{ℕ, zero, suc, ◌+◌, ◌-◌, ◌≤◌, ◌<◌}
use native.Mathlib.Omega.{arith}
use mathlib.Core.Bool.{Bool, true, false}
use lib.ListN.{length, length-set}
use Rattle.rules.specs.Expression.{Store}
use Rattle.rules.specs.While.{Stm, skip, assign, seq, if, while, Meaning, Evaluates, assign_ns, skip_ns, comp_ns, EvaluatesWithin}
use Rattle.rules.specs.While.{if_tt_ns, if_ff_ns, while_tt_ns, while_ff_ns, count, Unfinished, at_assign}
use Rattle.rules.specs.While.{in_first, in_second, at_test, in_then, at_then_end, in_else, at_while_test, in_body}
use Rattle.rules.specs.While.{at_pass_end, in_next_pass, Outcome, done, stop, and_then, spend, passes, exec}

-- what an outcome of a run with fuel n says of the rules
pub data Says (M : Meaning) (s : Stm) (n : ℕ) (σ : Store) : Outcome → Type 0 where
  evaluated : {σ' : Store} (left : ℕ) (d : Evaluates M s σ σ') → count d + left ≡ n → Says M s n σ (done σ' left)
  unfinished : {σ' : Store} → Unfinished M s σ n σ' → Says M s n σ (stop σ')

-- the store that a run left
abbrev pub store_of : Outcome → Store
store_of (done σ left) = σ
store_of (stop σ) = σ

-- no more fuel is left than there was
pub data AtMost (n : ℕ) : Outcome → Type 0 where
  some_left : {σ : Store} (left : ℕ) → left ≤ n → AtMost n (done σ left)
  none_left : {σ : Store} → AtMost n (stop σ)

module _ (M : Meaning) where
  pub at_most : {s : Stm} {n : ℕ} {σ : Store} {o : Outcome} → Says M s n σ o → AtMost n o
  at_most (evaluated left d e) = some_left left (omega arith)
  at_most (unfinished u) = none_left

  left_over : {n m : ℕ} {σ : Store} {o : Outcome} → o ≡ done σ m → AtMost n o → m ≤ n
  left_over {n} {m} e (some_left {σ = σ₁} left l) = let fuel : left ≡ m = cc in omega arith
  left_over e none_left = let z : ◌≡◌ {A = ℕ} 0 1 = cc in absurd (omega arith)

  after : {s : Stm} {σ σ' : Store} {n m : ℕ} → n ≡ m → Unfinished M s σ n σ' → Says M s m σ (stop σ')
  after {s} {σ} {σ'} e u = unfinished (subst (λ (i : ℕ). Unfinished M s σ i σ') e u)

  -- one lemma for each way to join two outcomes

  in_sequence : {s₀ s₁ : Stm} {n m : ℕ} {σ σ'' : Store} (d : Evaluates M s₀ σ σ'') → count d + m ≡ n → {o : Outcome}
      → Says M s₁ m σ'' o → Says M (seq s₀ s₁) n σ o
  unfolding count
  in_sequence d e (evaluated left d₁ e₁) = evaluated left (comp_ns d d₁) (omega arith)
  in_sequence d e (unfinished u) = after e (in_second d u)

  seq_says : (s₀ s₁ : Stm) (n : ℕ) (σ : Store) → ((m : ℕ) (σ₁ : Store) → Says M s₁ m σ₁ (exec M s₁ m σ₁)) → (o : Outcome)
      → Says M s₀ n σ o → Says M (seq s₀ s₁) n σ (and_then o (λ σ₁ m. exec M s₁ m σ₁))
  unfolding and_then
  seq_says s₀ s₁ n σ second (done σ₁ m) (evaluated left d e) = in_sequence d e (second m σ₁)
  seq_says s₀ s₁ n σ second (stop σ₁) (unfinished u) = unfinished (in_first u)

  then_says : (b : ℕ) (sₜ s : Stm) (n : ℕ) (σ : Store) → M.holds b σ ≡ true → (o : Outcome) → Says M sₜ n σ o
      → Says M (if b sₜ s) (suc n) σ (and_then o (λ σ₁ j. spend (done σ₁) σ₁ j))
  unfolding and_then spend count
  then_says b sₜ s n σ h (done σ₁ zero) (evaluated left d e) = after (omega arith) (at_then_end h d)
  then_says b sₜ s n σ h (done σ₁ (suc m)) (evaluated left d e) = evaluated m (if_tt_ns h d) (omega arith)
  then_says b sₜ s n σ h (stop σ₁) (unfinished u) = after (omega arith) (in_then h u)

  else_says : (b : ℕ) (sₜ s : Stm) (n : ℕ) (σ : Store) → M.holds b σ ≡ false → {o : Outcome} → Says M s n σ o → Says M (if b sₜ s) (suc n) σ o
  unfolding count
  else_says b sₜ s n σ h (evaluated left d e) = evaluated left (if_ff_ns h d) (omega arith)
  else_says b sₜ s n σ h (unfinished u) = after (omega arith) (in_else h u)

  if_says : (b : ℕ) (sₜ s : Stm) (n : ℕ) (σ : Store) (v : Bool) → M.holds b σ ≡ v → {x y : Outcome}
      → (M.holds b σ ≡ true → Says M (if b sₜ s) (suc n) σ x) → (M.holds b σ ≡ false → Says M (if b sₜ s) (suc n) σ y)
      → Says M (if b sₜ s) (suc n) σ (elim v [ true ↦ x | false ↦ y ])
  if_says b sₜ s n σ true h t f = t h
  if_says b sₜ s n σ false h t f = f h

  next_pass_says : (b : ℕ) (sₜ : Stm) (n m : ℕ) (σ σ'' : Store) → M.holds b σ ≡ true → (d : Evaluates M sₜ σ σ'')
      → count d + suc m ≡ n → {o : Outcome} → Says M (while b sₜ) m σ'' o → Says M (while b sₜ) (suc n) σ o
  unfolding count
  next_pass_says b sₜ n m σ σ'' h d e (evaluated left d' e') = evaluated left (while_tt_ns h d d') (omega arith)
  next_pass_says b sₜ n m σ σ'' h d e (unfinished u) = after (omega arith) (in_next_pass h d u)

  -- one pass, given what the passes after it say
  pass_says : (b : ℕ) (sₜ : Stm) (g n : ℕ) (σ : Store) → n < g
      → ((m : ℕ) (σ₁ : Store) → m < g → Says M (while b sₜ) m σ₁ (passes (M.holds b) (exec M sₜ) g m σ₁))
      → M.holds b σ ≡ true → (o : Outcome) → Says M sₜ n σ o
      → Says M (while b sₜ) (suc n) σ (and_then o (λ σ₁ n₂. spend (λ n₃. passes (M.holds b) (exec M sₜ) g n₃ σ₁) σ₁ n₂))
  unfolding and_then spend
  pass_says b sₜ g n σ l later h (done σ₁ zero) (evaluated left d e) = after (omega arith) (at_pass_end h d)
  pass_says b sₜ g n σ l later h (done σ₁ (suc m)) (evaluated left d e) = next_pass_says b sₜ n m σ σ₁ h d e (later m σ₁ (omega arith))
  pass_says b sₜ g n σ l later h (stop σ₁) (unfinished u) = after (omega arith) (in_body h u)

  while_says : (b : ℕ) (sₜ : Stm) (n : ℕ) (σ : Store) {o : Outcome} (v : Bool) → M.holds b σ ≡ v
      → (M.holds b σ ≡ true → Says M (while b sₜ) (suc n) σ o)
      → Says M (while b sₜ) (suc n) σ (elim v [ true ↦ o | false ↦ done σ n ])
  unfolding count
  while_says b sₜ n σ true h pass = pass h
  while_says b sₜ n σ false h pass = evaluated n (while_ff_ns h) (omega arith)

  passes_say : (b : ℕ) (sₜ : Stm) → ((m : ℕ) (σ : Store) → Says M sₜ m σ (exec M sₜ m σ)) → (g n : ℕ) (σ : Store) → n < g
      → Says M (while b sₜ) n σ (passes (M.holds b) (exec M sₜ) g n σ)
  unfolding passes spend
  passes_say b sₜ body zero n σ l = absurd (omega arith)
  passes_say b sₜ body (suc g) zero σ l = unfinished at_while_test
  passes_say b sₜ body (suc g) (suc n) σ l =
      while_says b sₜ n σ (M.holds b σ) refl
      (λ h. pass_says b sₜ g n σ (omega arith) (λ m σ₁ k. passes_say b sₜ body g m σ₁ k) h (exec M sₜ n σ) (body n σ))

  -- the outcome of a run says what it says
  pub says : (s : Stm) (n : ℕ) (σ : Store) → Says M s n σ (exec M s n σ)
  unfolding exec spend count
  says skip n σ = evaluated n skip_ns (omega arith)
  says (assign x a) zero σ = unfinished at_assign
  says (assign x a) (suc n) σ = evaluated n assign_ns (omega arith)
  says (seq s₀ s₁) n σ = seq_says s₀ s₁ n σ (says s₁) (exec M s₀ n σ) (says s₀ n σ)
  says (if b sₜ s) zero σ = unfinished at_test
  says (if b sₜ s) (suc n) σ =
      if_says b sₜ s n σ (M.holds b σ) refl
      (λ h. then_says b sₜ s n σ h (exec M sₜ n σ) (says sₜ n σ)) (λ h. else_says b sₜ s n σ h (says s n σ))
  says (while b sₜ) n σ = passes_say b sₜ (says sₜ) (suc n) n σ (omega arith)

  -- a run leaves no more fuel than it had
  pub no_more_left : (s : Stm) (n : ℕ) (σ : Store) {m : ℕ} {σ' : Store} → exec M s n σ ≡ done σ' m → m ≤ n
  no_more_left s n σ e = left_over e (at_most (says s n σ))

  -- ---- a run keeps the number of values in the store

  pub evaluated_length : {s : Stm} {σ σ' : Store} → Evaluates M s σ σ' → length σ' ≡ length σ
  evaluated_length {σ = σ} assign_ns = length-set σ _ _
  evaluated_length skip_ns = refl
  evaluated_length (comp_ns d e) = evaluated_length e ∙ evaluated_length d
  evaluated_length (if_tt_ns h d) = evaluated_length d
  evaluated_length (if_ff_ns h d) = evaluated_length d
  evaluated_length (while_tt_ns h d e) = evaluated_length e ∙ evaluated_length d
  evaluated_length (while_ff_ns h) = refl

  pub unfinished_length : {s : Stm} {σ σ' : Store} {n : ℕ} → Unfinished M s σ n σ' → length σ' ≡ length σ
  unfinished_length at_assign = refl
  unfinished_length (in_first u) = unfinished_length u
  unfinished_length (in_second d u) = unfinished_length u ∙ evaluated_length d
  unfinished_length at_test = refl
  unfinished_length (in_then h u) = unfinished_length u
  unfinished_length (at_then_end h d) = evaluated_length d
  unfinished_length (in_else h u) = unfinished_length u
  unfinished_length at_while_test = refl
  unfinished_length (in_body h u) = unfinished_length u
  unfinished_length (at_pass_end h d) = evaluated_length d
  unfinished_length (in_next_pass h d u) = unfinished_length u ∙ evaluated_length d

  said_length : {s : Stm} {n : ℕ} {σ : Store} (o : Outcome) → Says M s n σ o → length (store_of o) ≡ length σ
  said_length (done σ' left) (evaluated l d e) = evaluated_length d
  said_length (stop σ') (unfinished u) = unfinished_length u

  pub run_length : (s : Stm) (n : ℕ) (σ : Store) → length (store_of (exec M s n σ)) ≡ length σ
  run_length s n σ = said_length (exec M s n σ) (says s n σ)

  -- ---- more passes than fuel change nothing

  same_test : (v : Bool) (z : Outcome) {x y : Outcome} → x ≡ y → ◌≡◌ {A = Outcome} (elim v [ true ↦ x | false ↦ z ]) (elim v [ true ↦ y | false ↦ z ])
  same_test true z e = e
  same_test false z e = refl

  same_pass : (b : ℕ) (sₜ : Stm) (g h n : ℕ) (σ : Store)
      → ((m : ℕ) (σ₁ : Store) → m < n → passes (M.holds b) (exec M sₜ) g m σ₁ ≡ passes (M.holds b) (exec M sₜ) h m σ₁)
      → (o : Outcome) → AtMost n o
      → and_then o (λ σ₁ n₂. spend (λ n₃. passes (M.holds b) (exec M sₜ) g n₃ σ₁) σ₁ n₂) ≡ and_then o (λ σ₁ n₂. spend (λ n₃. passes (M.holds b) (exec M sₜ) h n₃ σ₁) σ₁ n₂)
  unfolding and_then spend
  same_pass b sₜ g h n σ same (done σ₁ zero) (some_left left l) = refl
  same_pass b sₜ g h n σ same (done σ₁ (suc m)) (some_left left l) = same m σ₁ (omega arith)
  same_pass b sₜ g h n σ same (stop σ₁) none_left = refl

  more_passes : (b : ℕ) (sₜ : Stm) (g h n : ℕ) (σ : Store) → n < g → n < h
      → passes (M.holds b) (exec M sₜ) g n σ ≡ passes (M.holds b) (exec M sₜ) h n σ
  unfolding passes spend
  more_passes b sₜ zero h n σ p q = absurd (omega arith)
  more_passes b sₜ (suc g) zero n σ p q = absurd (omega arith)
  more_passes b sₜ (suc g) (suc h) zero σ p q = refl
  more_passes b sₜ (suc g) (suc h) (suc n) σ p q =
      same_test (M.holds b σ) (done σ n)
      (same_pass b sₜ g h n σ (λ m σ₁ l. more_passes b sₜ g h m σ₁ (omega arith) (omega arith)) (exec M sₜ n σ) (at_most (says sₜ n σ)))

  -- ---- what a run of a loop does at its test, as a loop of code goes

  module _ (b : ℕ) (sₜ : Stm) (σ : Store) where
    pub while_spent : exec M (while b sₜ) zero σ ≡ stop σ
    unfolding exec passes spend
    while_spent = refl

    pub while_ends : (n : ℕ) → M.holds b σ ≡ false → exec M (while b sₜ) (suc n) σ ≡ done σ n
    unfolding exec passes spend
    while_ends n h = rw h

    pub while_stops : (n : ℕ) {σ₁ : Store} → M.holds b σ ≡ true → exec M sₜ n σ ≡ stop σ₁ → exec M (while b sₜ) (suc n) σ ≡ stop σ₁
    unfolding exec passes spend and_then
    while_stops n h e = rw (h, e)

    pub while_owes : (n : ℕ) {σ₁ : Store} → M.holds b σ ≡ true → exec M sₜ n σ ≡ done σ₁ zero → exec M (while b sₜ) (suc n) σ ≡ stop σ₁
    unfolding exec passes spend and_then
    while_owes n h e = rw (h, e)

    pub while_again : (n m : ℕ) {σ₁ : Store} → M.holds b σ ≡ true → exec M sₜ n σ ≡ done σ₁ (suc m)
        → exec M (while b sₜ) (suc n) σ ≡ exec M (while b sₜ) m σ₁
    unfolding exec passes spend and_then
    while_again n m {σ₁} h e = rw (h, e) (more_passes b sₜ (suc n) (suc m) m σ₁ (omega (arith, no_more_left sₜ n σ e)) (omega arith))

  -- an evaluation is found by any run that has the fuel for it
  pub complete : {s : Stm} {σ σ' : Store} (d : Evaluates M s σ σ') (m : ℕ) → exec M s (count d + m) σ ≡ done σ' m
  unfolding exec spend and_then passes count
  complete {σ} skip_ns m = ap (done σ) (omega arith)
  complete assign_ns m = rw (let q : 1 + m ≡ suc m = omega arith in q) refl
  complete (comp_ns d e) m = rw (let q : count d + count e + m ≡ count d + (count e + m) = omega arith in q, complete d (count e + m)) (complete e m)
  complete (if_tt_ns h d) m = rw (let q : 1 + count d + 1 + m ≡ suc (count d + suc m) = omega arith in q, h, complete d (suc m)) refl
  complete (if_ff_ns h d) m = rw (let q : 1 + count d + m ≡ suc (count d + m) = omega arith in q, h) (complete d m)
  complete (while_tt_ns {b = b} {sₜ = sₜ} {σ'' = σ''} h d e) m =
      rw (let q : 1 + count d + 1 + count e + m ≡ suc (count d + suc (count e + m)) = omega arith in q, h, complete d (suc (count e + m)))
      (more_passes b sₜ (1 + count d + 1 + count e + m) (suc (count e + m)) (count e + m) σ'' (omega arith) (omega arith) ∙ complete e m)
  complete (while_ff_ns h) m = rw (let q : 1 + m ≡ suc m = omega arith in q, h) refl

  -- an unfinished run is found by a run with just its units
  pub stops : {s : Stm} {σ σ' : Store} {n : ℕ} → Unfinished M s σ n σ' → exec M s n σ ≡ stop σ'
  unfolding exec spend and_then passes
  stops at_assign = refl
  stops (in_first u) = rw (stops u) refl
  stops (in_second {n = n} d u) = rw (complete d n) (stops u)
  stops at_test = refl
  stops (in_then {n = n} h u) = rw (let q : 1 + n ≡ suc n = omega arith in q, h, stops u) refl
  stops (at_then_end h d) = rw (let q : 1 + count d ≡ suc (count d + 0) = omega arith in q, h, complete d 0) refl
  stops (in_else {n = n} h u) = rw (let q : 1 + n ≡ suc n = omega arith in q, h) (stops u)
  stops at_while_test = refl
  stops (in_body {n = n} h u) = rw (let q : 1 + n ≡ suc n = omega arith in q, h, stops u) refl
  stops (at_pass_end h d) = rw (let q : 1 + count d ≡ suc (count d + 0) = omega arith in q, h, complete d 0) refl
  stops (in_next_pass {b = b} {sₜ = sₜ} {σ'' = σ''} {n = n} h d u) =
      rw (let q : 1 + count d + 1 + n ≡ suc (count d + suc n) = omega arith in q, h, complete d (suc n))
      (more_passes b sₜ (1 + count d + 1 + n) (suc n) n σ'' (omega arith) (omega arith) ∙ stops u)

  -- ---- what the run decides

  pub finds : {s : Stm} {σ σ' : Store} (d : Evaluates M s σ σ') (n : ℕ) → count d ≤ n → exec M s n σ ≡ done σ' (n - count d)
  finds {s} {σ} {σ'} d n l =
      let q : count d + (n - count d) ≡ n = omega arith in
      subst (λ (i : ℕ). exec M s i σ ≡ done σ' (n - count d)) q (complete d (n - count d))

  -- Lemma 22, in store and count
  pub deterministic : {s : Stm} {σ σ' σ'' : Store} (d : Evaluates M s σ σ') (e : Evaluates M s σ σ'') → (σ' ≡ σ'') × (count d ≡ count e)
  deterministic {s} {σ} {σ'} {σ''} d e =
      let swap : count e + count d ≡ count d + count e = omega arith in
      let other : exec M s (count d + count e) σ ≡ done σ'' (count d) = rw swap at (complete e (count d)) in
      let same : done σ' (count e) ≡ done σ'' (count d) = sym (complete d (count e)) ∙ other in
      (cc, cc)

  -- the run with fuel n decides: it is done with σ' and the fuel left exactly if there is an evaluation whose count is the rest
  pub record Decides (s : Stm) (n : ℕ) (σ : Store) : Type 0 where
    pub done_if : {σ' : Store} (d : Evaluates M s σ σ') → count d ≤ n → exec M s n σ ≡ done σ' (n - count d)
    pub done_only_if : {σ' : Store} {left : ℕ} → exec M s n σ ≡ done σ' left → (d : Evaluates M s σ σ') × (count d + left ≡ n)
    pub stop_if : (EvaluatesWithin M s σ n → ⊥) → (σ' : Store) × (exec M s n σ ≡ stop σ') × Unfinished M s σ n σ'
    pub stop_only_if : {σ' : Store} → exec M s n σ ≡ stop σ' → EvaluatesWithin M s σ n → ⊥

  was_done : {s : Stm} {n : ℕ} {σ : Store} {o : Outcome} → Says M s n σ o → {σ' : Store} {left : ℕ} → o ≡ done σ' left
      → (d : Evaluates M s σ σ') × (count d + left ≡ n)
  was_done {s} {n} {σ} (evaluated {σ' = σ₁} m d e) {σ'} {left} q =
      let stores : σ₁ ≡ σ' = cc in
      let fuel : m ≡ left = cc in
      subst (λ (z : Store). (d : Evaluates M s σ z) × (count d + left ≡ n)) stores (d, omega arith)
  was_done (unfinished {σ' = σ₁} u) q = let z : ◌≡◌ {A = ℕ} 0 1 = cc in absurd (omega arith)

  was_stopped : {s : Stm} {n : ℕ} {σ : Store} (o : Outcome) → Says M s n σ o → (EvaluatesWithin M s σ n → ⊥)
      → (σ' : Store) × (o ≡ stop σ') × Unfinished M s σ n σ'
  was_stopped (done σ₁ m) (evaluated left d e) no-eval = absurd (no-eval (σ₁, d, omega arith))
  was_stopped (stop σ₁) (unfinished u) no-eval = (σ₁, refl, u)

  pub decides : (s : Stm) (n : ℕ) (σ : Store) → Decides s n σ
  decides s n σ = record {
    done_if = λ d l. finds d n l;
    done_only_if = λ q. was_done (says s n σ) q;
    stop_if = λ no-eval. was_stopped (exec M s n σ) (says s n σ) no-eval;
    stop_only_if = λ q within. let e = finds within.1 n within.2 in let z : ◌≡◌ {A = ℕ} 0 1 = cc in omega arith;
  }

  -- whether the rules give an evaluation within n
  pub within? : (s : Stm) (n : ℕ) (σ : Store) → Dec (EvaluatesWithin M s σ n)
  within? s n σ = go (exec M s n σ) refl
    where
      go : (o : Outcome) → exec M s n σ ≡ o → Dec (EvaluatesWithin M s σ n)
      go (done σ' left) e = let d = (decides s n σ).done_only_if e in yes (σ', d.0, omega (arith, d.1))
      go (stop σ') e = no ((decides s n σ).stop_only_if e)
