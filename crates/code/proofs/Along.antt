-- A run on its way: after some steps the run that is left, with the fuel that is left, ends as the whole run does. So where it stands
-- at a finish, or at an instruction without fuel, its answer is that of the whole run.
use mathlib.Core.Path.{◌≡◌, refl, sym, ap, ◌∙◌}
use mathlib.Core.List.{List}
use mathlib.Core.Option.{some}
use Prim.Native.Nat.{ℕ, suc, ◌+◌, ◌-◌, ◌<◌, ◌≤◌}
use native.Mathlib.Omega.{arith}
use lib.ListN.{length}
use Rattle.rules.specs.Lists.{fetch}
use Rattle.rules.specs.Expression.{Store}
use Rattle.rules.specs.While.{Meaning}
use Rattle.rules.specs.Goto.{Code, Halted, finished, out, next_label, next_store, run}
use Rattle.rules.specs.Table.{meaning}
use Rattle.rules.specs.CodeWords.{part, instructions, code_of}
use Rattle.rules.specs.Answer.{Ended, ended, Answer}
use Rattle.rules.specs.CodeWords.{Rising, instr_at}
use Rattle.rules.proofs.FetchLaws.{code_facts, fetch_instr, fetch_nothing}
use Rattle.rules.proofs.GotoLaws.{store_of, run_length, next_length, run_step, run_out, run_finished}
use Rattle.rules.proofs.EndedLaws.{either_end}
use Rattle.code.specs.CodeRun.{code_run_refusal, code_end, code_run}
use Rattle.code.specs.inside.Running.{Bears, Place, Admitted, Stands, Stepped}
use Rattle.rules.specs.declared.End.{End}
use Rattle.rules.specs.declared.Halt.{Halt}
use Rattle.std.specs.Prelude.{Ok, Option, None, Some}

-- a label that no instruction bears
nowhere : {c : List ℕ} {ℓ : ℕ} → ((j : ℕ) → Bears c ℓ j → ⊥) → (j : ℕ) → j < instructions c → part c j 0 ≡ ℓ → ⊥
nowhere free j h e = free j (record { inside = h; label = e })

pub record Along (t c : List ℕ) (start : ℕ) (σ₀ : Store) (fuel ℓ : ℕ) (place : Option ℕ) (steps : ℕ) (σ : Store) : Type 0 where
  pub admitted : Admitted t c σ
  pub at : Place c ℓ place
  pub within : steps ≤ fuel
  pub same : run (meaning t) (code_of c) fuel start σ₀ ≡ run (meaning t) (code_of c) (fuel - steps) ℓ σ

module _ {t c : List ℕ} {start : ℕ} {σ₀ : Store} {fuel : ℕ} where
  pub begun : {place : Option ℕ} → Admitted t c σ₀ → Place c start place → Along t c start σ₀ fuel start place 0 σ₀
  begun h at = record { admitted = h; at = at; within = omega arith; same = ap (λ (n : ℕ). run (meaning t) (code_of c) n start σ₀) (omega arith) }

  module _ {ℓ : ℕ} {place : Option ℕ} {steps : ℕ} {σ : Store} (along : Along t c start σ₀ fuel ℓ place steps σ) where
    rising : Rising c
    rising = (code_facts t c along.admitted.code).rising

    pub borne : {k : ℕ} → place ≡ Some k → Bears c ℓ k
    borne e = rw e at along.at

    pub stands : {k : ℕ} → Bears c ℓ k → Stands t c k σ
    stands here = record { admitted = along.admitted; inside = here.inside }

    -- the instruction there is the one that the label fetches
    fetched : {k : ℕ} → Bears c ℓ k → fetch (code_of c) ℓ ≡ some (instr_at c k)
    fetched {k} here = fetch_instr c rising ℓ k here.inside here.label

    pub onward : {k ℓ' : ℕ} {place' : Option ℕ} {σ' : Store} → Bears c ℓ k → steps < fuel → Stepped t c k σ ℓ' place' σ'
        → Along t c start σ₀ fuel ℓ' place' (steps + 1) σ'
    onward {k} {ℓ'} {place'} {σ'} here more stepped = record {
      admitted = record { table = along.admitted.table; code = along.admitted.code; store = ap length stepped.store ∙ next_length (meaning t) (instr_at c k) σ ∙ along.admitted.store };
      at = stepped.at;
      within = omega arith;
      same = along.same ∙ spent ∙ run_step (meaning t) (code_of c) (fuel - (steps + 1)) ℓ σ (instr_at c k) (fetched here) ∙ there;
    }
      where
        spent : run (meaning t) (code_of c) (fuel - steps) ℓ σ ≡ run (meaning t) (code_of c) (suc (fuel - (steps + 1))) ℓ σ
        spent = ap (λ (n : ℕ). run (meaning t) (code_of c) n ℓ σ) (omega arith)

        there : run (meaning t) (code_of c) (fuel - (steps + 1)) (next_label (meaning t) (instr_at c k) ℓ σ) (next_store (meaning t) (instr_at c k) σ)
            ≡ run (meaning t) (code_of c) (fuel - (steps + 1)) ℓ' σ'
        there = rw (stepped.label, stepped.store, here.label)

    pub at_finish : place ≡ None
        → ended (Ok (End.Finished (record { label = ℓ; steps = steps }))) σ ≡ code_end fuel (run (meaning t) (code_of c) fuel start σ₀)
    unfolding code_end
    at_finish e =
        let spent : steps ≡ fuel - (fuel - steps) = omega (arith, along.within) in
        ap (λ (n : ℕ). ended (Ok (End.Finished (record { label = ℓ; steps = n }))) σ) spent
        ∙ ap (code_end fuel) (sym (along.same ∙ run_finished (meaning t) (code_of c) (fuel - steps) ℓ σ (fetch_nothing c ℓ (nowhere (rw e at along.at)))))

    pub without_fuel : {k : ℕ} → Bears c ℓ k → steps ≡ fuel
        → ended (Ok (End.OutOfFuel (record { label = ℓ; steps = steps }))) σ ≡ code_end fuel (run (meaning t) (code_of c) fuel start σ₀)
    unfolding code_end
    without_fuel {k} here e =
        ap (λ (n : ℕ). ended (Ok (End.OutOfFuel (record { label = ℓ; steps = n }))) σ) e
        ∙ ap (code_end fuel) (sym (along.same ∙ ap (λ (n : ℕ). run (meaning t) (code_of c) n ℓ σ) (omega arith) ∙ run_out (meaning t) (code_of c) ℓ σ (instr_at c k) (fetched here)))

-- the store that a run leaves has as many values as the one it was lent
end_length : (n : ℕ) (h : Halted) → length (code_end n h).after ≡ length (store_of h)
unfolding code_end
end_length n (finished ℓ σ left) = refl
end_length n (out ℓ σ) = refl

pub left_length : (M : Meaning) (c : Code) (n ℓ : ℕ) (σ : Store) {r : Answer (End Halt)} {σ' : Store} → ended r σ' ≡ code_end n (run M c n ℓ σ) → length σ' ≡ length σ
left_length M c n ℓ σ e = ap (λ (x : Ended (Answer (End Halt)) Store). length x.after) e ∙ end_length n (run M c n ℓ σ) ∙ run_length M c n ℓ σ

-- and so has the store that a call leaves, refused or not
pub after_length : (t c : List ℕ) (start : ℕ) (σ : Store) (n : ℕ) → length (code_run t c start σ n).after ≡ length σ
unfolding code_run
after_length t c start σ n =
    let h = run (meaning t) (code_of c) n start σ in
    either_end (code_run_refusal t c start σ) σ (code_end n h) (λ end. length end.after ≡ length σ)
    (λ r e. refl) (λ e. end_length n h ∙ run_length (meaning t) (code_of c) n start σ)
