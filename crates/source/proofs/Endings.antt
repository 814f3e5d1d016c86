-- How a call of `run_source` ends, case by case: what the tests of the code find, and what the definition answers then.
use mathlib.Core.Path.{◌≡◌, sym, ap, ◌∙◌}
use mathlib.Core.Option.{none, some}
use mathlib.Core.List.{List}
use Prim.Native.Nat.{ℕ, zero, suc, ◌+◌, ◌-◌, ◌<◌}
use native.Mathlib.Omega.{arith}
use lib.ListN.{length}
use borrow.Author.Tests.{eq-eqb, ne_eqb}
use Rattle.rules.specs.Expression.{Store}
use Rattle.rules.specs.While.{exec}
use Rattle.rules.specs.Table.{root, tree_at, stm_of, meaning, program, table_refusal}
use Rattle.rules.specs.StoreRefusal.{store_refusal}
use Rattle.rules.specs.Refusal.{refusal, refuse}
use Rattle.rules.specs.Answer.{ended}
use Rattle.rules.specs.declared.Refusal.{Refusal}
use Rattle.rules.proofs.ListLaws.{some_or_else, none_or_else}
use Rattle.rules.proofs.EndedLaws.{ends_refused, ends_unrefused}
use Rattle.source.specs.SourceRun.{source_refusal, source_end, source_run}
use Rattle.source.specs.inside.Ran.{outcome, Ran}
use Rattle.rules.specs.declared.End.{End}
use Rattle.std.specs.Prelude.{Ok, Err}

module _ (t : List ℕ) (σ : Store) (n : ℕ) where
  pub table_refused : {r : Refusal} → table_refusal t ≡ some r → source_run t σ n ≡ ended (Err r) σ
  unfolding source_run source_refusal
  table_refused {r} e = ends_refused _ _ _ (some_or_else (table_refusal t) (store_refusal σ) r e)

  pub store_refused : table_refusal t ≡ none → (length σ ≡ 32 → ⊥) → source_run t σ n ≡ ended (Err (refusal 10 0)) σ
  unfolding source_run source_refusal store_refusal refuse
  store_refused e h = ends_refused _ _ _ (none_or_else (table_refusal t) (store_refusal σ) e ∙ rw (ne_eqb (length σ) 32 h))

  pub source_runs : table_refusal t ≡ none → length σ ≡ 32 → source_run t σ n ≡ source_end n (exec (meaning t) (program t) n σ)
  unfolding source_run source_refusal store_refusal refuse
  source_runs e h = ends_unrefused _ _ _ (none_or_else (table_refusal t) (store_refusal σ) e ∙ rw (eq-eqb (length σ) 32 h))

  -- by what the run of the root left of its credit
  module _ (e : table_refusal t ≡ none) (h : length σ ≡ 32) where
    ran_ends : {r : ℕ} {σ₁ : Store} → Ran t (root t) (n + 1) σ r σ₁ → source_run t σ n ≡ source_end n (outcome r σ₁)
    unfolding program
    ran_ends ran =
        let fuel : n + 1 - 1 ≡ n = omega arith in
        source_runs e h ∙ ap (source_end n) (ap (λ f. exec (meaning t) (stm_of (tree_at t (root t))) f σ) (sym fuel) ∙ sym ran.is)

    pub source_spent : {σ₁ : Store} → Ran t (root t) (n + 1) σ 0 σ₁ → source_run t σ n ≡ ended (Ok (End.OutOfFuel n)) σ₁
    unfolding source_end outcome
    source_spent ran = ran_ends ran

    pub source_finished : {σ₁ : Store} (r : ℕ) → 0 < r → Ran t (root t) (n + 1) σ r σ₁ → source_run t σ n ≡ ended (Ok (End.Finished (n - (r - 1)))) σ₁
    unfolding source_end outcome
    source_finished zero k ran = absurd (omega arith)
    source_finished {σ₁} (suc left) k ran =
        let same : left ≡ suc left - 1 = omega arith in
        ran_ends ran ∙ ap (λ m. ended (Ok (End.Finished (n - m))) σ₁) same
