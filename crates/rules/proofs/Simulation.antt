-- Compiled code follows its source. The argument is made once, for any code that contains the compiled piece of a statement from ℓ up to
-- e = ℓ + size s, whatever else stands below ℓ or from e up: the run from ℓ is at e with the While store after exactly the While count of
-- steps, or out of fuel inside the piece with the unfinished store. Demand 3 on the definitions is a corollary. Assumes nothing.
use mathlib.Core.Path.{◌≡◌, refl, sym, ap, ◌∙◌}
use Prim.Native.Nat.{ℕ, zero, suc, ◌+◌, ◌-◌, ◌≤◌, ◌<◌}
use native.Mathlib.Omega.{arith}
use mathlib.Core.Bool.{Bool, true, false}
use mathlib.Core.List.Memᴰ
use mathlib.Core.Option.{Option, none, some}
use Rattle.rules.specs.Lists.{fetch}
use Rattle.rules.specs.Expression.{Store}
use Rattle.rules.specs.While.{Stm, skip, assign, seq, if, while, Meaning, Evaluates, count, EvaluatesWithin, Unfinished, Outcome, done, stop, and_then, spend, passes, exec}
use Rattle.rules.specs.Goto.{Instr, ◌≔◌, goto, ifnot, Code, ◌∈◌, Steps, Halted, finished, out, next_label, next_store, run}
use Rattle.rules.specs.Compilation.{size, compile}
use Rattle.rules.proofs.WhileLaws.{AtMost, some_left, none_left, at_most, says, finds, stops, decides}
use Rattle.rules.proofs.GotoLaws.{finished_steps, out_steps, run_step, run_out, run_finished, fetches, outside}
use Rattle.rules.proofs.CompilationLaws.{compile_dom, compile_wellformed}

-- ---- containing code

-- at each label of the piece p the code c has p's instruction
abbrev pub Contains : Code → Code → Type 0
Contains c p = (ℓ : ℕ) (i : Instr) → (ℓ, i) ∈ p → fetch c ℓ ≡ some i

-- the same, statement by statement
unfoldable pub Holds : Code → Stm → ℕ → Type 0
Holds c skip ℓ = Unit {0}
Holds c (assign x a) ℓ = fetch c ℓ ≡ some (x ≔ a)
Holds c (seq s₀ s₁) ℓ = Holds c s₀ ℓ × Holds c s₁ (ℓ + size s₀)
Holds c (if b sₜ s) ℓ =
    let m : ℕ = ℓ + 1 + size sₜ in
    (fetch c ℓ ≡ some (ifnot b (m + 1))) × Holds c sₜ (ℓ + 1) × (fetch c m ≡ some (goto (m + 1 + size s))) × Holds c s (m + 1)
Holds c (while b sₜ) ℓ =
    let m : ℕ = ℓ + 1 + size sₜ in
    (fetch c ℓ ≡ some (ifnot b (m + 1))) × Holds c sₜ (ℓ + 1) × (fetch c m ≡ some (goto ℓ))

pub holds_piece : (c : Code) (s : Stm) (ℓ : ℕ) → Contains c (compile s ℓ) → Holds c s ℓ
unfolding Holds compile
holds_piece c skip ℓ f = tt
holds_piece c (assign x a) ℓ f = f ℓ (x ≔ a) (Memᴰ.head refl)
holds_piece c (seq s₀ s₁) ℓ f = (
  holds_piece c s₀ ℓ (λ m i h. f m i (Memᴰ.append_left (compile s₁ (ℓ + size s₀)) h)),
  holds_piece c s₁ (ℓ + size s₀) (λ m i h. f m i (Memᴰ.append_right (compile s₀ ℓ) h)),
)
holds_piece c (if b sₜ s) ℓ f = (
  f ℓ _ (Memᴰ.head refl),
  holds_piece c sₜ (ℓ + 1) (λ m i h. f m i (Memᴰ.tail (Memᴰ.append_left _ h))),
  f _ _ (Memᴰ.tail (Memᴰ.append_right (compile sₜ (ℓ + 1)) (Memᴰ.head refl))),
  holds_piece c s (ℓ + 1 + size sₜ + 1) (λ m i h. f m i (Memᴰ.tail (Memᴰ.append_right (compile sₜ (ℓ + 1)) (Memᴰ.tail h)))),
)
holds_piece c (while b sₜ) ℓ f = (
  f ℓ _ (Memᴰ.head refl),
  holds_piece c sₜ (ℓ + 1) (λ m i h. f m i (Memᴰ.tail (Memᴰ.append_left _ h))),
  f _ _ (Memᴰ.tail (Memᴰ.append_right (compile sₜ (ℓ + 1)) (Memᴰ.head refl))),
)

module _ (M : Meaning) (c : Code) where
  -- ---- a run from ℓ follows an outcome of the source up to the label e

  pub data Follows (ℓ e : ℕ) : Outcome → Halted → Type 0 where
    arrives : {σ : Store} {left : ℕ} {h : Halted} → h ≡ run M c left e σ → Follows ℓ e (done σ left) h
    inside : {σ : Store} {h : Halted} (j : ℕ) → h ≡ out j σ → ℓ ≤ j → j < e → Follows ℓ e (stop σ) h

  -- a run that goes on in the same way, seen from a wider piece
  onward : {ℓ ℓ₁ e₁ : ℕ} (e : ℕ) {o : Outcome} {h g : Halted} → ℓ ≤ ℓ₁ → e₁ ≡ e → h ≡ g → Follows ℓ₁ e₁ o g → Follows ℓ e o h
  onward e l q p (arrives {σ = σ} {left = left} f) = arrives (p ∙ f ∙ ap (λ (i : ℕ). run M c left i σ) q)
  onward e l q p (inside j f a b) = inside j (p ∙ f) (omega arith) (omega arith)

  -- what comes first, up to m, and then what comes after it
  joined_runs : {ℓ m : ℕ} (e n : ℕ) → m ≤ e → (next : Store → ℕ → Outcome)
      → ((σ : Store) (k : ℕ) → k ≤ n → Follows ℓ e (next σ k) (run M c k m σ))
      → {o : Outcome} → AtMost n o → {h : Halted} → Follows ℓ m o h → Follows ℓ e (and_then o next) h
  unfolding and_then
  joined_runs e n p next follow (some_left left l) (arrives {σ = σ} q) = onward e (omega arith) refl q (follow σ left l)
  joined_runs e n p next follow none_left (inside j q a b) = inside j q a (omega arith)

  -- the closing jump, at m
  jump : {ℓ m : ℕ} (e to : ℕ) → fetch c m ≡ some (goto to) → ℓ ≤ m → m < e → (next : Store → ℕ → Outcome) (n : ℕ)
      → ((σ : Store) (k : ℕ) → k < n → Follows ℓ e (next σ k) (run M c k to σ))
      → (σ : Store) (k : ℕ) → k ≤ n → Follows ℓ e (spend (next σ) σ k) (run M c k m σ)
  unfolding spend next_label next_store
  jump {m = m} e to g p q next n follow σ zero l = inside m (run_out M c m σ _ g) p q
  jump {m = m} e to g p q next n follow σ (suc k) l = onward e (omega arith) refl (run_step M c k m σ _ g) (follow σ k l)

  -- the step of an ifnot, either way
  test_true : (n ℓ b m : ℕ) (σ : Store) → fetch c ℓ ≡ some (ifnot b m) → M.holds b σ ≡ true → run M c (suc n) ℓ σ ≡ run M c n (ℓ + 1) σ
  unfolding next_label next_store
  test_true n ℓ b m σ g h = run_step M c n ℓ σ _ g ∙ rw (h, next_label) refl

  test_false : (n ℓ b m : ℕ) (σ : Store) → fetch c ℓ ≡ some (ifnot b m) → M.holds b σ ≡ false → run M c (suc n) ℓ σ ≡ run M c n m σ
  unfolding next_label next_store
  test_false n ℓ b m σ g h = run_step M c n ℓ σ _ g ∙ rw (h, next_label) refl

  tested : (n ℓ b m e : ℕ) (σ : Store) → fetch c ℓ ≡ some (ifnot b m) → (v : Bool) → M.holds b σ ≡ v → {x y : Outcome}
      → Follows ℓ e x (run M c n (ℓ + 1) σ) → Follows ℓ e y (run M c n m σ) → Follows ℓ e (elim v [ true ↦ x | false ↦ y ]) (run M c (suc n) ℓ σ)
  tested n ℓ b m e σ g true h x y = onward e (omega arith) refl (test_true n ℓ b m σ g h) x
  tested n ℓ b m e σ g false h x y = onward e (omega arith) refl (test_false n ℓ b m σ g h) y

  -- ---- the simulation

  loop_follows : (b : ℕ) (sₜ : Stm) (ℓ : ℕ)
      → ((n : ℕ) (σ : Store) → Follows (ℓ + 1) (ℓ + 1 + size sₜ) (exec M sₜ n σ) (run M c n (ℓ + 1) σ))
      → fetch c ℓ ≡ some (ifnot b (ℓ + 1 + size sₜ + 1)) → fetch c (ℓ + 1 + size sₜ) ≡ some (goto ℓ)
      → (g n : ℕ) (σ : Store) → n < g → Follows ℓ (ℓ + 1 + size sₜ + 1) (passes (M.holds b) (exec M sₜ) g n σ) (run M c n ℓ σ)
  unfolding passes spend
  loop_follows b sₜ ℓ body test back zero n σ l = absurd (omega arith)
  loop_follows b sₜ ℓ body test back (suc g) zero σ l = inside ℓ (run_out M c ℓ σ _ test) (omega arith) (omega arith)
  loop_follows b sₜ ℓ body test back (suc g) (suc n) σ l =
      let m : ℕ = ℓ + 1 + size sₜ in
      tested n ℓ b (m + 1) (m + 1) σ test (M.holds b σ) refl
      (joined_runs (m + 1) n (omega arith) _
      (jump (m + 1) ℓ back (omega arith) (omega arith) (λ σ₂ n₃. passes (M.holds b) (exec M sₜ) g n₃ σ₂) n (λ σ₂ n₃ k. loop_follows b sₜ ℓ body test back g n₃ σ₂ (omega arith)))
      (at_most M (says M sₜ n σ)) (onward m (omega arith) refl refl (body n σ)))
      (arrives refl)

  pub follows : (s : Stm) (n ℓ : ℕ) (σ : Store) → Holds c s ℓ → Follows ℓ (ℓ + size s) (exec M s n σ) (run M c n ℓ σ)
  unfolding exec Holds size spend next_label next_store
  follows skip n ℓ σ h = arrives (ap (λ (i : ℕ). run M c n i σ) (let q : ℓ ≡ ℓ + 0 = omega arith in q))
  follows (assign x a) zero ℓ σ h = inside ℓ (run_out M c ℓ σ _ h) (omega arith) (omega arith)
  follows (assign x a) (suc n) ℓ σ h = arrives (run_step M c n ℓ σ _ h)
  follows (seq s₀ s₁) n ℓ σ h =
      joined_runs (ℓ + (size s₀ + size s₁)) n (omega arith) _
      (λ σ₁ m l. onward (ℓ + (size s₀ + size s₁)) (omega arith) (omega arith) refl (follows s₁ m (ℓ + size s₀) σ₁ h.1))
      (at_most M (says M s₀ n σ)) (follows s₀ n ℓ σ h.0)
  follows (if b sₜ s) zero ℓ σ h = inside ℓ (run_out M c ℓ σ _ h.0) (omega arith) (omega arith)
  follows (if b sₜ s) (suc n) ℓ σ h =
      let m : ℕ = ℓ + 1 + size sₜ in let e : ℕ = ℓ + (size sₜ + size s + 2) in
      tested n ℓ b (m + 1) e σ h.0 (M.holds b σ) refl
      (joined_runs e n (omega arith) _
      (jump e (m + 1 + size s) h.2 (omega arith) (omega arith) done n (λ σ₂ i k. arrives (ap (λ (j : ℕ). run M c i j σ₂) (let q : m + 1 + size s ≡ e = omega arith in q))))
      (at_most M (says M sₜ n σ)) (onward m (omega arith) refl refl (follows sₜ n (ℓ + 1) σ h.1)))
      (onward e (omega arith) (omega arith) refl (follows s n (m + 1) σ h.3))
  follows (while b sₜ) n ℓ σ h =
      onward (ℓ + (size sₜ + 2)) (omega arith) (omega arith) refl
      (loop_follows b sₜ ℓ (λ k σ₁. follows sₜ k (ℓ + 1) σ₁ h.1) h.0 h.2 (suc n) n σ (omega arith))

  -- ---- what that says on the published rules

  where_done : {ℓ e : ℕ} {σ' : Store} {left : ℕ} {o : Outcome} {h : Halted} → o ≡ done σ' left → Follows ℓ e o h → h ≡ run M c left e σ'
  where_done {e = e} {σ' = σ'} {left = left} q (arrives {σ = σ₁} {left = m} f) =
      let store : σ₁ ≡ σ' = cc in let fuel : m ≡ left = cc in f ∙ rw (store, fuel) refl
  where_done q (inside {σ = σ₁} j f a b) = let z : ◌≡◌ {A = ℕ} 0 1 = cc in absurd (omega arith)

  -- out of fuel inside the piece from ℓ up to e
  pub record Inside (ℓ e : ℕ) (σ : Store) (h : Halted) : Type 0 where
    pub label : ℕ
    pub from_start : ℓ ≤ label
    pub before_end : label < e
    pub is : h ≡ out label σ

  where_stopped : {ℓ e : ℕ} {σ' : Store} {o : Outcome} {h : Halted} → o ≡ stop σ' → Follows ℓ e o h → Inside ℓ e σ' h
  where_stopped q (arrives {σ = σ₁} {left = m} f) = let z : ◌≡◌ {A = ℕ} 0 1 = cc in absurd (omega arith)
  where_stopped {σ' = σ'} q (inside {σ = σ₁} j f a b) =
      let store : σ₁ ≡ σ' = cc in record { label = j; from_start = a; before_end = b; is = f ∙ ap (out j) store }

  -- demand 3 in its general form: the run of code that contains the piece of s from ℓ on
  pub record Pursues (s : Stm) (ℓ n : ℕ) (σ : Store) : Type 0 where
    pub arrives_if : {σ' : Store} (d : Evaluates M s σ σ') → count d ≤ n → run M c n ℓ σ ≡ run M c (n - count d) (ℓ + size s) σ'
    pub otherwise : (EvaluatesWithin M s σ n → ⊥) → (σ' : Store) × Inside ℓ (ℓ + size s) σ' (run M c n ℓ σ) × Unfinished M s σ n σ'

  pub pursues : (s : Stm) (ℓ : ℕ) → Contains c (compile s ℓ) → (n : ℕ) (σ : Store) → Pursues s ℓ n σ
  pursues s ℓ contains n σ =
      let f = follows s n ℓ σ (holds_piece c s ℓ contains) in
      record {
        arrives_if = λ d l. where_done (finds M d n l) f;
        otherwise = λ none. let u = (decides M s n σ).stop_if none in (u.0, where_stopped u.1 f, u.2);
      }

  -- with just the While count for fuel, those are the published steps
  stands_at : (k ℓ e : ℕ) (σ σ' : Store) → run M c k ℓ σ ≡ run M c zero e σ' → Steps M c k ℓ σ e σ'
  stands_at k ℓ e σ σ' q = go (fetch c e) refl
    where
      go : (o : Option Instr) → fetch c e ≡ o → Steps M c k ℓ σ e σ'
      go none f = rw (let all : k - 0 ≡ k = omega arith in all) at (finished_steps M c k ℓ σ (q ∙ run_finished M c zero e σ' f)).steps
      go (some i) f = (out_steps M c k ℓ σ (q ∙ run_out M c e σ' i f)).steps

  pub reaches : (s : Stm) (ℓ : ℕ) → Contains c (compile s ℓ) → {σ σ' : Store} (d : Evaluates M s σ σ') → Steps M c (count d) ℓ σ (ℓ + size s) σ'
  reaches s ℓ contains {σ} {σ'} d =
      stands_at (count d) ℓ (ℓ + size s) σ σ'
      ((pursues s ℓ contains (count d) σ).arrives_if d (omega arith) ∙ ap (λ (i : ℕ). run M c i (ℓ + size s) σ') (let q : count d - count d ≡ 0 = omega arith in q))

-- ---- demand 3 for compiled code alone

pub piece_contains : (s : Stm) (ℓ : ℕ) → Contains (compile s ℓ) (compile s ℓ)
piece_contains s ℓ = fetches (compile s ℓ) (compile_wellformed s ℓ)

-- the piece bears no label at its end, nor beyond
pub end_outside : (s : Stm) (ℓ m : ℕ) → ℓ + size s ≤ m → fetch (compile s ℓ) m ≡ none
end_outside s ℓ m l = outside (compile s ℓ) m (λ d. omega (arith, ((compile_dom s ℓ m).0 d).1))

-- "the compiled code, begun at its start label, finishes exactly if the While rules give an evaluation from that store whose count is at
-- most n; it then stands at the end label with that store and count. Otherwise it is out of fuel after n steps. The source run gives the
-- same verdict, count and store in both cases."
pub record Demand3 (M : Meaning) (s : Stm) (ℓ n : ℕ) (σ : Store) : Type 0 where
  pub finishes_if : {σ' : Store} (d : Evaluates M s σ σ') → count d ≤ n
      → (run M (compile s ℓ) n ℓ σ ≡ finished (ℓ + size s) σ' (n - count d)) × (exec M s n σ ≡ done σ' (n - count d))
  pub otherwise_out : (EvaluatesWithin M s σ n → ⊥)
      → (σ' : Store) × Inside M (compile s ℓ) ℓ (ℓ + size s) σ' (run M (compile s ℓ) n ℓ σ) × (exec M s n σ ≡ stop σ') × Unfinished M s σ n σ'
  pub finishes_only_if : {ℓ' : ℕ} {σ' : Store} {left : ℕ} → run M (compile s ℓ) n ℓ σ ≡ finished ℓ' σ' left
      → (ℓ' ≡ ℓ + size s) × ((d : Evaluates M s σ σ') × (count d + left ≡ n))

finished_as : {M : Meaning} {c : Code} {ℓ e : ℕ} {o : Outcome} {h : Halted}
    → (k : (m : ℕ) (σ : Store) → run M c m e σ ≡ finished e σ m) → Follows M c ℓ e o h
    → {ℓ' : ℕ} {σ' : Store} {left : ℕ} → h ≡ finished ℓ' σ' left → (ℓ' ≡ e) × (o ≡ done σ' left)
finished_as {e = e} end (arrives {σ = σ₁} {left = m} f) {ℓ'} {σ'} {left} q =
    let at-end : finished e σ₁ m ≡ finished ℓ' σ' left = sym (end m σ₁) ∙ sym f ∙ q in (cc, cc)
finished_as end (inside {σ = σ₁} j f a b) {ℓ'} {σ'} {left} q = let clash : out j σ₁ ≡ finished ℓ' σ' left = sym f ∙ q in let z : ◌≡◌ {A = ℕ} 0 1 = cc in absurd (omega arith)

pub demand_3 : (M : Meaning) (s : Stm) (ℓ n : ℕ) (σ : Store) → Demand3 M s ℓ n σ
demand_3 M s ℓ n σ =
    let c : Code = compile s ℓ in
    let p = pursues M c s ℓ (piece_contains s ℓ) n σ in
    let end : (m : ℕ) (σ₁ : Store) → run M c m (ℓ + size s) σ₁ ≡ finished (ℓ + size s) σ₁ m = λ m σ₁. run_finished M c m (ℓ + size s) σ₁ (end_outside s ℓ (ℓ + size s) (omega arith)) in
    record {
      finishes_if = λ d l. (p.arrives_if d l ∙ end (n - count d) _, finds M d n l);
      otherwise_out = λ none. let u = p.otherwise none in (u.0, u.1, stops M u.2, u.2);
      finishes_only_if = λ q.
          let f = finished_as end (follows M c s n ℓ σ (holds_piece c s ℓ (piece_contains s ℓ))) q in
          (f.0, (decides M s n σ).done_only_if f.1);
    }
