-- What a run of each kind of statement node does, by the runs of its children: the laws that the source run's code follows branch by
-- branch. The credit is written as the code has it, c and c - 1.
use mathlib.Core.Path.{◌≡◌, refl, ap, sym, ◌∙◌}
use mathlib.Core.Bool.{Bool, true, false}
use mathlib.Core.List.{List}
use Prim.Native.Nat.{ℕ, zero, suc, ◌-◌, ◌<◌, ◌≤◌}
use native.Mathlib.Omega.{arith as linear}
use lib.ListN.{length, set}
use Rattle.rules.specs.Expression.{Store}
use Rattle.rules.specs.While.{Stm, done, and_then, spend, exec}
use Rattle.rules.specs.Table.{Kind, tree_by, tree_at, stm_of, meaning}
use Rattle.rules.proofs.TableLaws.{accepted_facts, NodeAs, node_as, stm_as}
use Rattle.rules.proofs.WhileLaws.{store_of, run_length, no_more_left, while_spent, while_ends, while_stops, while_owes, while_again}
use Rattle.evaluate.proofs.Nodes.{As}
use Rattle.source.specs.inside.Ran.{outcome, runs, Ran, Of}

-- a statement node of a known kind
pub of_kind : {t : List ℕ} {n : ℕ} {k : Kind} → Of t n k → As k t n
of_kind {k = k} o = node_as ((accepted_facts _ o.ready.accepted).node _ o.ready.inside) k o.kind

-- what is left of some credit, as fuel
left_done : (m : ℕ) (σ : Store) → 0 < m → done σ (m - 1) ≡ outcome m σ
unfolding outcome
left_done zero σ h = absurd (omega linear)
left_done (suc m) σ h = ap (done σ) (let q : suc m - 1 ≡ m = omega linear in q)

-- a unit more that leaves the store alone
paid_is : (m : ℕ) (σ : Store) → spend (done σ) σ m ≡ outcome m σ
unfolding spend outcome
paid_is zero σ = refl
paid_is (suc m) σ = refl

-- a child w ran, read as the word v
pub ran_as : {t : List ℕ} {v w c r : ℕ} {σ σ₁ : Store} → Ran t w c σ r σ₁ → w ≡ v → Ran t v c σ r σ₁
ran_as {t} {c = c} {σ = σ} e h = record { is = e.is ∙ ap (λ x. runs t x c σ) h }

-- a run that goes on as another did
pub since : {t : List ℕ} {n c d r : ℕ} {σ τ σ₁ : Store} → runs t n c σ ≡ runs t n d τ → Ran t n d τ r σ₁ → Ran t n c σ r σ₁
since e f = record { is = f.is ∙ sym e }

-- it left no more than it had
pub left_most : {t : List ℕ} {w c : ℕ} {σ σ₁ : Store} (r : ℕ) → Ran t w c σ r σ₁ → 0 < c → r ≤ c
unfolding outcome
left_most zero e h = omega linear
left_most {t} {w} {c} {σ} (suc m) e h = omega (linear, no_more_left (meaning t) (stm_of (tree_at t w)) (c - 1) σ (sym e.is))

-- it kept the number of values
pub ran_length : {t : List ℕ} {w c : ℕ} {σ σ₁ : Store} (r : ℕ) → Ran t w c σ r σ₁ → length σ₁ ≡ length σ
unfolding outcome
ran_length {t} {w} {c} {σ} zero e = ap (λ o. length (store_of o)) e.is ∙ run_length (meaning t) (stm_of (tree_at t w)) (c - 1) σ
ran_length {t} {w} {c} {σ} (suc m) e = ap (λ o. length (store_of o)) e.is ∙ run_length (meaning t) (stm_of (tree_at t w)) (c - 1) σ

-- and what a test of the child w told
pub tested : (t : List ℕ) {v w : ℕ} (σ : Store) {b d : Bool} → b ≡ (meaning t).holds w σ → w ≡ v → b ≡ d → (meaning t).holds v σ ≡ d
tested t σ e h u = ap (λ x. (meaning t).holds x σ) (sym h) ∙ sym e ∙ u

module _ {t : List ℕ} {n p q r : ℕ} where
  -- a node's statement, as its kind says
  runs_as : {k : Kind} (v : NodeAs t n k p q r) (f : ℕ) (σ : Store)
      → exec (meaning t) (stm_of (tree_at t n)) f σ ≡ exec (meaning t) (stm_of (tree_by k p q r (tree_at t))) f σ
  runs_as v f σ = ap (λ s. exec (meaning t) s f σ) (stm_as v)

  -- where a unit can be paid
  turn : {k : Kind} (v : NodeAs t n k p q r) {c : ℕ} (σ : Store) → 1 < c
      → runs t n c σ ≡ exec (meaning t) (stm_of (tree_by k p q r (tree_at t))) (suc (c - 1 - 1)) σ
  turn v {c} σ h = let some : c - 1 ≡ suc (c - 1 - 1) = omega linear in ap (λ f. exec (meaning t) (stm_of (tree_at t n)) f σ) some ∙ runs_as v _ σ

  pub skip_ran : NodeAs t n Kind.skip p q r → {c : ℕ} (σ : Store) → 0 < c → Ran t n c σ c σ
  unfolding tree_by exec
  skip_ran v {c} σ h = record { is = sym (runs_as v (c - 1) σ ∙ left_done c σ h) }

  pub assign_spent : NodeAs t n Kind.assign p q r → (σ : Store) → Ran t n 1 σ 0 σ
  unfolding tree_by exec spend outcome
  assign_spent v σ = record { is = sym (runs_as v 0 σ) }

  pub assign_ran : NodeAs t n Kind.assign p q r → {c : ℕ} (σ : Store) → 1 < c → Ran t n c σ (c - 1) (set σ p ((meaning t).arith q σ))
  unfolding tree_by exec spend
  assign_ran v {c} σ h = record { is = sym (turn v σ h ∙ left_done (c - 1) _ (omega linear)) }

  module _ (v : NodeAs t n Kind.sequence p q r) where
    pub first_done : {c m k : ℕ} {σ σ₁ σ₂ : Store} → Ran t p c σ m σ₁ → 0 < m → Ran t q m σ₁ k σ₂ → Ran t n c σ k σ₂
    unfolding tree_by exec and_then
    first_done {c} {m} {k} {σ} {σ₁} e h f = record { is = f.is ∙ sym (runs_as v (c - 1) σ ∙ rw (sym e.is, sym (left_done m σ₁ h))) }

    pub first_stopped : {c : ℕ} {σ σ₁ : Store} → Ran t p c σ 0 σ₁ → Ran t n c σ 0 σ₁
    unfolding tree_by exec and_then outcome
    first_stopped {c} {σ} e = record { is = sym (runs_as v (c - 1) σ ∙ rw (sym e.is)) }

  module _ (v : NodeAs t n Kind.if p q r) where
    pub if_spent : (σ : Store) → Ran t n 1 σ 0 σ
    unfolding tree_by exec spend outcome
    if_spent σ = record { is = sym (runs_as v 0 σ) }

    pub if_false : {c m : ℕ} {σ σ₁ : Store} → 1 < c → (meaning t).holds p σ ≡ false → Ran t r (c - 1) σ m σ₁ → Ran t n c σ m σ₁
    unfolding tree_by exec spend
    if_false {c} {m} {σ} h b e = record { is = e.is ∙ sym (turn v σ h ∙ rw b) }

    pub if_true : {c : ℕ} {σ σ₁ : Store} → 1 < c → (meaning t).holds p σ ≡ true → (m : ℕ) → Ran t q (c - 1) σ m σ₁ → Ran t n c σ (m - 1) σ₁
    unfolding tree_by exec spend and_then outcome
    if_true {σ = σ} h b zero e = record { is = sym (turn v σ h ∙ rw (b, sym e.is)) }
    if_true {σ = σ} {σ₁ = σ₁} h b (suc m) e =
        let less : suc m - 1 ≡ m = omega linear in
        record { is = ap (λ k. outcome k σ₁) less ∙ sym (turn v σ h ∙ rw (b, sym e.is) (paid_is m σ₁)) }

  module _ (v : NodeAs t n Kind.while p q r) where
    loops : (f : ℕ) (σ : Store) → exec (meaning t) (stm_of (tree_at t n)) f σ ≡ exec (meaning t) (Stm.while p (stm_of (tree_at t q))) f σ
    unfolding tree_by
    loops f σ = runs_as v f σ

    passes : {c : ℕ} (σ : Store) → 1 < c → runs t n c σ ≡ exec (meaning t) (Stm.while p (stm_of (tree_at t q))) (suc (c - 1 - 1)) σ
    unfolding tree_by
    passes σ h = turn v σ h

    pub loop_spent : (σ : Store) → Ran t n 1 σ 0 σ
    unfolding outcome
    loop_spent σ = record { is = sym (loops 0 σ ∙ while_spent (meaning t) p _ σ) }

    module _ {c : ℕ} {σ : Store} (h : 1 < c) where
      pub loop_ends : (meaning t).holds p σ ≡ false → Ran t n c σ (c - 1) σ
      loop_ends b = record { is = sym (passes σ h ∙ while_ends (meaning t) p _ σ (c - 1 - 1) b ∙ left_done (c - 1) σ (omega linear)) }

      pub loop_stops : {σ₁ : Store} (m : ℕ) → (meaning t).holds p σ ≡ true → Ran t q (c - 1) σ m σ₁ → m ≤ 1 → Ran t n c σ 0 σ₁
      unfolding outcome
      loop_stops zero b e k = record { is = sym (passes σ h ∙ while_stops (meaning t) p _ σ (c - 1 - 1) b (sym e.is)) }
      loop_stops (suc zero) b e k = record { is = sym (passes σ h ∙ while_owes (meaning t) p _ σ (c - 1 - 1) b (sym e.is)) }
      loop_stops (suc (suc m)) b e k = absurd (omega linear)

      pub loop_goes_on : {σ₁ : Store} (m : ℕ) → (meaning t).holds p σ ≡ true → Ran t q (c - 1) σ m σ₁ → 1 < m → runs t n c σ ≡ runs t n (m - 1) σ₁
      unfolding outcome
      loop_goes_on zero b e k = absurd (omega linear)
      loop_goes_on (suc zero) b e k = absurd (omega linear)
      loop_goes_on {σ₁} (suc (suc m)) b e k =
          let less : suc (suc m) - 1 - 1 ≡ m = omega linear in
          passes σ h ∙ while_again (meaning t) p _ σ (c - 1 - 1) m b (sym e.is) ∙ sym (loops m σ₁) ∙ ap (λ f. exec (meaning t) (stm_of (tree_at t n)) f σ₁) (sym less)
