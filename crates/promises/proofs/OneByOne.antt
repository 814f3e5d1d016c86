-- "The whole must equal the crews run one by one": for the public functions, and for the calls of the C boundary, whatever they answer, if they
-- meet their contracts, as the check states them. Assumes nothing.
use mathlib.Core.Path.{◌≡◌, refl, sym, ap, ◌∙◌}
use mathlib.Core.Logic.{◌↔◌}
use mathlib.Core.List.{List}
use Prim.Native.Nat.{ℕ, ◌+◌, ◌*◌}
use native.Mathlib.Omega.{arith}
use contract.Lifetimes.{Lfts}
use denote.Triple.Clauses.{AtExit}
use borrow.Fn.Kinds.{Dens, ended_of}
use lib.IntN.{ℤ}
use lib.ListN.{get_or, take, drop}
use lib.Seq.{get_or-take, get_or-drop}
use Rattle.rules.specs.Expression.{Store}
use Rattle.rules.specs.Goto as goto
use Rattle.rules.specs.Goto.{Halted, out, run}
use Rattle.rules.specs.Table.{meaning}
use Rattle.rules.specs.CodeWords.{code_of}
use Rattle.rules.specs.Answer.{ended, checked_words, code_run_words, Answer}
use Rattle.rules.specs.declared.Halt.{Halt}
use Rattle.rules.proofs.EndedLaws.{answer_is, after_is, ends_unrefused}
use Rattle.code.specs.CodeRun.{code_end, code_run}
use Rattle.depot.specs.Depot.{crew, crew_words, lent, crew_run, depot}
use Rattle.depot.proofs.Promise.{crew_unrefused, crew_part, crew_row}
use Rattle.boundary.specs.Calls.{code_call, depot_call}
use Rattle.code.proofs.run_code.Kinds as code-kinds
use Rattle.code.proofs.run_code.Reads as code_Reads
use Rattle.depot.proofs.run_depot.Kinds as depot-kinds
use Rattle.depot.proofs.run_depot.Reads as depot-reads
use Rattle.boundary.proofs.rill_run_code.Kinds as rill-code-kinds
use Rattle.boundary.proofs.rill_run_code.Reads as rill-code-reads
use Rattle.boundary.proofs.rill_run_depot.Kinds as rill-depot-kinds
use Rattle.boundary.proofs.rill_run_depot.Reads as rill-depot-reads
use Rattle.promises.specs.OneByOne.{Telling, answers, words, RunOfCrew, OneByOne}
use Rattle.rules.specs.declared.End.{End}
use Rattle.std.specs.Prelude.{Ok, Err}

-- ---- a run that was not refused finished, or is out of fuel

data Ran : Answer (End Halt) → Type 0 where
  did_finish : (h : Halt) → Ran (Ok (End.Finished h))
  ran_out : (h : Halt) → Ran (Ok (End.OutOfFuel h))

ended_ran : (n : ℕ) (h : Halted) → Ran (code_end n h).answer
unfolding code_end
ended_ran n (goto.finished ℓ σ left) = did_finish _
ended_ran n (out ℓ σ) = ran_out _

-- ---- ways to tell it

-- a way to tell the answers says of each what it is
record Faithful {Run : Type 0} (tells : Telling Run) (tell : Answer (End Halt) → Run) : Type 0 where
  finished : (h : Halt) → tells.finished (tell (Ok (End.Finished h)))
  not_finished : (h : Halt) → tells.finished (tell (Ok (End.OutOfFuel h))) → ⊥
  out_of_fuel : (h : Halt) → tells.out_of_fuel (tell (Ok (End.OutOfFuel h)))
  not_out_of_fuel : (h : Halt) → tells.out_of_fuel (tell (Ok (End.Finished h))) → ⊥
  three_words : {y : Answer (End Halt)} → Ran y → crew_words y ≡ tells.three_words (tell y)

faithful_answers : Faithful answers (λ y. y)
faithful_answers = record {
  finished = λ h. (h, refl);
  not_finished = λ h f. let e = f.1 in let z : ◌≡◌ {A = ℕ} 0 1 = cc in omega arith;
  out_of_fuel = λ h. (h, refl);
  not_out_of_fuel = λ h f. let e = f.1 in let z : ◌≡◌ {A = ℕ} 0 1 = cc in omega arith;
  three_words = λ {y} r. refl;
}

crew_words_told : {y : Answer (End Halt)} → Ran y → crew_words y ≡ words.three_words (code_run_words y)
unfolding code_run_words crew_words
crew_words_told (did_finish h) = refl
crew_words_told (ran_out h) = refl

faithful_words : Faithful words code_run_words
unfolding code_run_words crew_words
faithful_words = record {
  finished = λ h. refl;
  not_finished = λ h f. omega arith;
  out_of_fuel = λ h. refl;
  not_out_of_fuel = λ h f. omega arith;
  three_words = λ r. crew_words_told r;
}

-- a crew's first word is 0 or 1 as its run ended
module _ {Run : Type 0} {tells : Telling Run} {tell : Answer (End Halt) → Run} (f : Faithful tells tell) where
  verdict_0_of : {y : Answer (End Halt)} → Ran y → (get_or (crew_words y) 0 2 ≡ 0) ↔ tells.finished (tell y)
  unfolding crew_words
  verdict_0_of (did_finish h) = (λ e. f.finished h, λ t. refl)
  verdict_0_of (ran_out h) = (λ e. absurd (omega arith), λ t. absurd (f.not_finished h t))

  verdict_1_of : {y : Answer (End Halt)} → Ran y → (get_or (crew_words y) 0 2 ≡ 1) ↔ tells.out_of_fuel (tell y)
  unfolding crew_words
  verdict_1_of (did_finish h) = (λ e. absurd (omega arith), λ t. absurd (f.not_out_of_fuel h t))
  verdict_1_of (ran_out h) = (λ e. f.out_of_fuel h, λ t. refl)

-- the first word of a crew in the room is the first of its three
first_word : (room w : List ℕ) (i : ℕ) → take 3 (drop (3 * i) room) ≡ w → get_or room (3 * i) 2 ≡ get_or w 0 2
first_word room w i e =
    let j : 3 * i ≡ 3 * i + 0 = omega arith in
    ap (λ (k : ℕ). get_or room k 2) j ∙ sym (get_or-drop (3 * i) room 0 2) ∙ sym (get_or-take 3 (drop (3 * i) room) 0 2 (omega arith))
    ∙ ap (λ (l : List ℕ). get_or l 0 2) e

-- ---- on the definitions

-- a depot that is done, and the run of one of its crews, told in any faithful way
module _ (t c : List ℕ) (start : ℕ) (stores : List ℤ) (n : ℕ) (room : List ℕ) (stores' : List ℤ) (room' : List ℕ)
    (done : ended (Ok tt) (lent stores' room') ≡ depot t c start stores n room)
    (t₁ c₁ : List ℕ) (start₁ : ℕ) (σ : Store) (n₁ : ℕ) (y : Answer (End Halt)) (σ' : Store) (met : ended y σ' ≡ code_run t₁ c₁ start₁ σ n₁)
    (i : ℕ) (same : RunOfCrew i t c start stores n t₁ c₁ start₁ σ n₁) where
  crew_run_lem : ended y σ' ≡ crew_run t c start stores n i
  crew_run_lem = rw (same.table, same.code, same.start_label, same.store, same.fuel) at met

  ran : Ran y
  unfolding code_run
  ran =
      let h = run (meaning t) (code_of c) n start (crew stores i) in
      let unrefused = crew_unrefused t c start stores n room (Ok tt) stores' room' done refl i same.inside in
      rw (answer_is (crew_run_lem ∙ ends_unrefused _ (crew stores i) (code_end n h) unrefused)) (ended_ran n h)

  row : take 3 (drop (3 * i) room') ≡ crew_words y
  row = crew_row t c start stores n room (Ok tt) stores' room' done refl i same.inside ∙ sym (ap crew_words (answer_is crew_run_lem))

  kept : {Run : Type 0} {tells : Telling Run} {tell : Answer (End Halt) → Run} {x : Run} → Faithful tells tell → x ≡ tell y
      → OneByOne tells i stores' room' x σ'
  kept f told =
      rw told
      (record {
        store = crew_part t c start stores n room (Ok tt) stores' room' done refl i same.inside ∙ sym (after_is crew_run_lem);
        three_words = row ∙ f.three_words ran;
        verdict_0 = rw (first_word room' (crew_words y) i row) (verdict_0_of f ran);
        verdict_1 = rw (first_word room' (crew_words y) i row) (verdict_1_of f ran);
      })

-- ---- on the contracts of the public functions

module _ (κs : Lfts 4) (a : Dens κs depot-kinds.ps) (s : AtExit (ended_of 4 depot-kinds.ps depot-kinds.r) κs)
    (κs₁ : Lfts 3) (b : Dens κs₁ code-kinds.ps) (u : AtExit (ended_of 3 code-kinds.ps code-kinds.r) κs₁) where
  -- `run_depot` has table, code, start label, stores, fuel and room; `run_code` table, code, start label, store and fuel
  pub one_by_one : (i : ℕ) (y : Answer (End Halt)) → depot-reads.Post κs a (Ok tt) s → code_Reads.Post κs₁ b y u
      → RunOfCrew i a.0.now a.1.0.now a.1.1.0 a.1.1.1.0.now a.1.1.1.1.0
      b.0.now b.1.0.now b.1.1.0 b.1.1.1.0.now b.1.1.1.1.0
      → OneByOne answers i s.1.1.1.0.now s.1.1.1.1.1.0.now y u.1.1.1.0.now
  one_by_one i y depot-met run-met same = kept _ _ _ _ _ _ _ _ depot-met _ _ _ _ _ y _ run-met i same faithful_answers refl

-- ---- on the contracts of the C boundary

-- an answer that is told as done was done
checked_done : (x : Answer (Unit {0})) → checked_words (Ok tt) ≡ checked_words x → x ≡ Ok tt
unfolding checked_words
checked_done (Ok done) e = refl
checked_done (Err r) e = let z : ◌≡◌ {A = ℕ} 0 3 = cc in absurd (omega arith)

module _ (κs : Lfts 5) (a : Dens κs rill-depot-kinds.ps) (s : AtExit (ended_of 5 rill-depot-kinds.ps rill-depot-kinds.r) κs)
    (κs₁ : Lfts 4) (b : Dens κs₁ rill-code-kinds.ps) (u : AtExit (ended_of 4 rill-code-kinds.ps rill-code-kinds.r) κs₁) where
  -- the arguments are in the same order, and the eight words of the answer come last
  pub one_by_one_in_words : (i : ℕ) → rill-depot-reads.Post κs a tt s → s.1.1.1.1.1.1.0.now ≡ checked_words (Ok tt)
      → rill-code-reads.Post κs₁ b tt u
      → RunOfCrew i a.0.now a.1.0.now a.1.1.0 a.1.1.1.0.now a.1.1.1.1.0
      b.0.now b.1.0.now b.1.1.0 b.1.1.1.0.now b.1.1.1.1.0
      → OneByOne words i s.1.1.1.0.now s.1.1.1.1.1.0.now u.1.1.1.1.1.0.now u.1.1.1.0.now
  unfolding depot_call code_call
  one_by_one_in_words i depot-met done run-met same =
      let call = depot a.0.now a.1.0.now a.1.1.0 a.1.1.1.0.now a.1.1.1.1.0 a.1.1.1.1.1.0.now in
      let end = code_run b.0.now b.1.0.now b.1.1.0 b.1.1.1.0.now b.1.1.1.1.0 in
      let was_done : call.answer ≡ Ok tt = checked_done call.answer (sym done ∙ answer_is depot-met) in
      let is_done : ended (Ok tt) (lent s.1.1.1.0.now s.1.1.1.1.1.0.now) ≡ call = rw (← was_done, after_is depot-met) refl in
      kept _ _ _ _ _ _ _ _ is_done _ _ _ _ _ end.answer _ (rw (after_is run-met) refl) i same faithful_words (answer_is run-met)
