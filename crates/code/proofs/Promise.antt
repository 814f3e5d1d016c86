-- What the contracts of the two runs give: one answer with one store after it; and that of `run_code` demand 2, for any answer that meets it.
-- Assumes nothing.
use mathlib.Core.Path.{◌≡◌, refl, sym, ap, ◌∙◌}
use mathlib.Core.List.{List}
use mathlib.Core.Option.{none}
use Prim.Native.Nat.{ℕ, ◌+◌, ◌-◌, ◌≤◌}
use native.Mathlib.Omega.{arith}
use contract.Lifetimes.{Lfts}
use denote.Triple.Clauses.{AtExit}
use borrow.Fn.Kinds.{Dens, ended_of}
use Rattle.rules.specs.Expression.{Store}
use Rattle.rules.specs.While.{Meaning}
use Rattle.rules.specs.Goto as goto
use Rattle.rules.specs.Goto.{Code, InDom, Steps, Halted, out, run}
use Rattle.rules.specs.Table.{meaning}
use Rattle.rules.specs.CodeWords.{code_of}
use Rattle.rules.specs.Answer.{ended, Answer}
use Rattle.rules.proofs.FetchLaws.{code_facts, code_of_wellformed}
use Rattle.rules.proofs.GotoLaws.{in_fetched, outside, run_out, run_finished, run_steps, finished_steps, out_steps}
use Rattle.rules.proofs.EndedLaws.{ok_is, answer_is, after_is, one_end, ends_unrefused, either_end}
use Rattle.code.specs.CodeRun.{code_run_refusal, code_end, code_run}
use Rattle.code.specs.CodeSays.{halt, CodeSays, refused, finished, out_of_fuel}
use Rattle.code.proofs.Checks.{admitted}
use Rattle.code.proofs.run_admitted.Kinds as behind
use Rattle.code.proofs.run_admitted.Reads as behind-reads
use Rattle.code.proofs.run_code.Kinds.{ps, r}
use Rattle.code.proofs.run_code.Reads.{Post}
use Rattle.rules.specs.declared.End.{End}
use Rattle.rules.specs.declared.Halt.{Halt}
use Rattle.std.specs.Prelude.{Ok}

module _ (t c : List ℕ) (start : ℕ) (σ : Store) (fuel : ℕ) where
  abbrev M : Meaning
  M = meaning t

  abbrev C : Code
  C = code_of c

  -- the end of a run that was not refused
  told : (h : Halted) → run M C fuel start σ ≡ h → code_run_refusal t c start σ ≡ none
      → CodeSays t c start σ fuel (code_end fuel h).answer (code_end fuel h).after
  unfolding code_end
  told (goto.finished ℓ σ' left) q e = let steps = finished_steps M C fuel start σ q in finished e steps.steps (omega arith) steps.stuck
  told (out ℓ σ') q e = let steps = out_steps M C fuel start σ q in out_of_fuel e steps.steps steps.goes_on

  code_says : (r : Answer (End Halt)) (σ' : Store) → ended r σ' ≡ code_run t c start σ fuel → CodeSays t c start σ fuel r σ'
  unfolding code_run
  code_says r σ' met =
      rw (answer_is met, after_is met)
      (either_end (code_run_refusal t c start σ) σ (code_end fuel (run M C fuel start σ))
      (λ end. CodeSays t c start σ fuel end.answer end.after) (λ q e. refused q e) (λ e. told (run M C fuel start σ) refl e))

  -- and the other way: the steps of Fig. 1 decide the answer
  module _ (none_refused : code_run_refusal t c start σ ≡ none) where
    runs : code_run t c start σ fuel ≡ code_end fuel (run M C fuel start σ)
    unfolding code_run
    runs = ends_unrefused _ _ _ none_refused

    answers_finished : {k ℓ : ℕ} {τ : Store} → Steps M C k start σ ℓ τ → k ≤ fuel → (InDom C ℓ → ⊥)
        → code_run t c start σ fuel ≡ ended (Ok (End.Finished (halt ℓ k))) τ
    unfolding code_end
    answers_finished {k} {ℓ} {τ} s h free =
        let wf = code_of_wellformed c (code_facts t c (admitted t c start σ none_refused).code).rising in
        let whole : k + (fuel - k) ≡ fuel = omega arith in
        let halts : run M C fuel start σ ≡ goto.finished ℓ τ (fuel - k) =
        ap (λ (n : ℕ). run M C n start σ) (sym whole) ∙ run_steps M wf s (fuel - k) ∙ run_finished M C (fuel - k) ℓ τ (outside C ℓ free) in
        let count : fuel - (fuel - k) ≡ k = omega arith in
        runs ∙ ap (code_end fuel) halts ∙ ap (λ (n : ℕ). ended (Ok (End.Finished (halt ℓ n))) τ) count

    answers_out_of_fuel : {ℓ : ℕ} {τ : Store} → Steps M C fuel start σ ℓ τ → InDom C ℓ
        → code_run t c start σ fuel ≡ ended (Ok (End.OutOfFuel (halt ℓ fuel))) τ
    unfolding code_end
    answers_out_of_fuel {ℓ} {τ} s d =
        let wf = code_of_wellformed c (code_facts t c (admitted t c start σ none_refused).code).rising in
        let whole : fuel + 0 ≡ fuel = omega arith in
        let here = in_fetched C ℓ d.0 d.1 in
        runs ∙ ap (code_end fuel) (ap (λ (n : ℕ). run M C n start σ) (sym whole) ∙ run_steps M wf s 0 ∙ run_out M C ℓ τ here.0 here.1)

-- the run behind its checks, which a depot makes for each of its crews
pub run_admitted_determined : (κs : Lfts 3) (a : Dens κs behind.ps) (x y : End Halt) (s t : AtExit (ended_of 3 behind.ps behind.r) κs)
    → behind-reads.Post κs a x s → behind-reads.Post κs a y t → (x ≡ y) × (s.1.1.1.0.now ≡ t.1.1.1.0.now)
run_admitted_determined κs a x y s t p q = let same = one_end p q in (ok_is same.0, same.1)

module _ (κs : Lfts 3) (a : Dens κs ps) where
  pub run_code_determined : (x y : Answer (End Halt)) (s t : AtExit (ended_of 3 ps r) κs) → Post κs a x s → Post κs a y t
      → (x ≡ y) × (s.1.1.1.0.now ≡ t.1.1.1.0.now)
  run_code_determined x y s t p q = one_end p q

  -- table, code, start label, store and fuel are the arguments, in this order
  module _ (x : Answer (End Halt)) (s : AtExit (ended_of 3 ps r) κs) (met : Post κs a x s) where
    pub run_code_says : CodeSays a.0.now a.1.0.now a.1.1.0 a.1.1.1.0.now a.1.1.1.1.0 x s.1.1.1.0.now
    run_code_says = code_says _ _ _ _ _ x _ met

    module _ (none_refused : code_run_refusal a.0.now a.1.0.now a.1.1.0 a.1.1.1.0.now ≡ none) where
      -- steps to a finish within the fuel are found
      pub run_code_finishes : {k ℓ : ℕ} {τ : Store} → Steps (meaning a.0.now) (code_of a.1.0.now) k a.1.1.0 a.1.1.1.0.now ℓ τ
          → k ≤ a.1.1.1.1.0 → (InDom (code_of a.1.0.now) ℓ → ⊥) → (x ≡ Ok (End.Finished (halt ℓ k))) × (s.1.1.1.0.now ≡ τ)
      run_code_finishes steps within free = let end = met ∙ answers_finished _ _ _ _ _ none_refused steps within free in (answer_is end, after_is end)

      -- as many steps as fuel, to an instruction, are out of fuel
      pub run_code_runs_out : {ℓ : ℕ} {τ : Store}
          → Steps (meaning a.0.now) (code_of a.1.0.now) a.1.1.1.1.0 a.1.1.0 a.1.1.1.0.now ℓ τ
          → InDom (code_of a.1.0.now) ℓ → (x ≡ Ok (End.OutOfFuel (halt ℓ a.1.1.1.1.0))) × (s.1.1.1.0.now ≡ τ)
      run_code_runs_out steps there = let end = met ∙ answers_out_of_fuel _ _ _ _ _ none_refused steps there in (answer_is end, after_is end)
