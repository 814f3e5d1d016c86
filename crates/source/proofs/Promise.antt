-- What the contract of `run_source` gives: one answer with one store after it, and demand 2, for any answer that meets it. Assumes nothing.
use mathlib.Core.Path.{◌≡◌, refl, sym, subst, ◌∙◌}
use mathlib.Core.Option.{none}
use mathlib.Core.List.{List}
use Prim.Native.Nat.{ℕ, ◌-◌}
use native.Mathlib.Omega.{arith}
use contract.Lifetimes.{Lfts}
use denote.Triple.Clauses.{AtExit}
use borrow.Fn.Kinds.{Dens, ended_of}
use Rattle.rules.specs.Expression.{Store}
use Rattle.rules.specs.While.{count, Outcome, done, stop, exec}
use Rattle.rules.specs.Table.{meaning, program}
use Rattle.rules.specs.Answer.{ended, Answer}
use Rattle.rules.proofs.WhileLaws.{Says, evaluated, unfinished, says, finds}
use Rattle.rules.proofs.EndedLaws.{answer_is, after_is, one_end, either_end}
use Rattle.source.specs.SourceRun.{source_refusal, source_end, source_run}
use Rattle.source.specs.SourceSays.{SourceSays, refused, finished, out_of_fuel}
use Rattle.source.proofs.run_source.Kinds.{ps, r}
use Rattle.source.proofs.run_source.Reads.{Post}
use Rattle.rules.specs.declared.End.{End}
use Rattle.std.specs.Prelude.{Ok}

module _ (t : List ℕ) (σ : Store) (n : ℕ) where
  -- the end of a run that was not refused
  told : (o : Outcome) → exec (meaning t) (program t) n σ ≡ o → source_refusal t σ ≡ none → Says (meaning t) (program t) n σ o
      → SourceSays t σ n (source_end n o).answer (source_end n o).after
  unfolding source_end
  told (done σ' left) q e (evaluated l d s) =
      subst (λ (k : ℕ). SourceSays t σ n (Ok (End.Finished k)) σ') (let steps : count d ≡ n - left = omega arith in steps) (finished d e (omega arith))
  told (stop σ') q e (unfinished u) = out_of_fuel e (λ w. stopped (sym q ∙ finds (meaning t) w.1 n w.2)) u
    where
      stopped : {τ : Store} {left : ℕ} → stop σ' ≡ done τ left → ⊥
      stopped {τ} {left} clash = let z : ◌≡◌ {A = ℕ} 0 1 = cc in omega arith

  source_says : (r : Answer (End ℕ)) (σ' : Store) → ended r σ' ≡ source_run t σ n → SourceSays t σ n r σ'
  unfolding source_run
  source_says r σ' met =
      rw (answer_is met, after_is met)
      (either_end (source_refusal t σ) σ (source_end n (exec (meaning t) (program t) n σ))
      (λ end. SourceSays t σ n end.answer end.after) (λ q e. refused q e)
      (λ e. told (exec (meaning t) (program t) n σ) refl e (says (meaning t) (program t) n σ)))

module _ (κs : Lfts 2) (a : Dens κs ps) where
  pub run_source_determined : (x y : Answer (End ℕ)) (s t : AtExit (ended_of 2 ps r) κs) → Post κs a x s → Post κs a y t
      → (x ≡ y) × (s.1.0.now ≡ t.1.0.now)
  run_source_determined x y s t p q = one_end p q

  -- table, store and fuel are the first, second and third argument
  pub run_source_says : (x : Answer (End ℕ)) (s : AtExit (ended_of 2 ps r) κs) → Post κs a x s
      → SourceSays a.0.now a.1.0.now a.1.1.0 x s.1.0.now
  run_source_says x s met = source_says _ _ _ x _ met
