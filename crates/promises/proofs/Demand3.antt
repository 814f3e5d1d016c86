-- Demand 3 for the public functions, and for the calls of the C boundary: whatever they answer, if they meet their contracts, as the check
-- states them. Assumes nothing.
use mathlib.Core.Path.{◌≡◌, refl, sym, ap, ap₂, ◌∙◌}
use mathlib.Core.Option.{none}
use mathlib.Core.List.{List}
use Prim.Native.Nat.{ℕ, ◌+◌, ◌-◌, ◌≤◌}
use native.Mathlib.Omega.{arith}
use lib.ListN.{length}
use contract.Lifetimes.{Lfts}
use denote.Triple.Clauses.{AtExit}
use borrow.Fn.Kinds.{Dens, ended_of}
use Rattle.rules.specs.Expression.{Store}
use Rattle.rules.specs.While.{Evaluates, count, EvaluatesWithin, exec}
use Rattle.rules.specs.Goto.{run}
use Rattle.rules.specs.Compilation.{size, compile}
use Rattle.rules.specs.Table.{meaning, program, Accepted}
use Rattle.rules.specs.CodeWords.{code_of}
use Rattle.rules.specs.Answer.{ended, compiled_words, source_run_words, code_run_words, Answer}
use Rattle.rules.specs.declared.Made.{Made}
use Rattle.rules.proofs.WhileLaws.{within?}
use Rattle.rules.proofs.CompilationLaws.{known, compiled_code}
use Rattle.rules.proofs.EndedLaws.{answer_is, after_is, ends_unrefused}
use Rattle.rules.proofs.Simulation as simulation
use Rattle.compiler.specs.Compiling.{made, compiling}
use Rattle.compiler.specs.CompileSays.{written}
use Rattle.compiler.proofs.Promise.{done_prescribed, done_unrefused}
use Rattle.source.specs.SourceRun.{source_end, source_run}
use Rattle.source.proofs.Endings.{source_runs}
use Rattle.code.specs.CodeRun.{code_run_refusal, code_end, code_run}
use Rattle.code.specs.CodeSays.{halt}
use Rattle.code.proofs.Checks.{not_refused}
use Rattle.boundary.specs.Calls.{compile_call, source_call, code_call}
use Rattle.compiler.proofs.compile.Kinds as compile-kinds
use Rattle.compiler.proofs.compile.Reads as compile-reads
use Rattle.source.proofs.run_source.Kinds as source-kinds
use Rattle.source.proofs.run_source.Reads as source-reads
use Rattle.code.proofs.run_code.Kinds as code-kinds
use Rattle.code.proofs.run_code.Reads as code_Reads
use Rattle.boundary.proofs.rill_compile.Kinds as rill-compile-kinds
use Rattle.boundary.proofs.rill_compile.Reads as rill-compile-reads
use Rattle.boundary.proofs.rill_run_source.Kinds as rill-source-kinds
use Rattle.boundary.proofs.rill_run_source.Reads as rill-source-reads
use Rattle.boundary.proofs.rill_run_code.Kinds as rill-code-kinds
use Rattle.boundary.proofs.rill_run_code.Reads as rill-code-reads
use Rattle.promises.specs.Demand3.{Verdicts, answers, words, Together, Finished, OutOfFuel, Evaluated, Demand3}
use Rattle.rules.specs.declared.End.{End}
use Rattle.rules.specs.declared.Halt.{Halt}
use Rattle.std.specs.Prelude.{Ok, Err}

-- ---- "only if" follows from the rest: whether there is an evaluation within n is decided

-- a finish is told as no other verdict, and tells its steps
pub record Plain {Code Source : Type 0} (tells : Verdicts Code Source) : Type 0 where
  pub code_apart : {ℓ k ℓ' k' : ℕ} → tells.code_finished ℓ k ≡ tells.code_out ℓ' k' → ⊥
  pub code_steps : {ℓ k ℓ' k' : ℕ} → tells.code_finished ℓ k ≡ tells.code_finished ℓ' k' → k ≡ k'
  pub source_apart : {k k' : ℕ} → tells.source_finished k ≡ tells.source_out k' → ⊥
  pub source_steps : {k k' : ℕ} → tells.source_finished k ≡ tells.source_finished k' → k ≡ k'

pub plain_answers : Plain answers
plain_answers = record {
  code_apart = λ {ℓ} {k} {ℓ'} {k'} e. let z : ◌≡◌ {A = ℕ} 0 1 = cc in omega arith;
  code_steps = λ {ℓ} {k} {ℓ'} {k'} e. let h : halt ℓ k ≡ halt ℓ' k' = cc in ap (λ x. x.steps) h;
  source_apart = λ {k} {k'} e. let z : ◌≡◌ {A = ℕ} 0 1 = cc in omega arith;
  source_steps = λ {k} {k'} e. cc;
}

pub plain_words : Plain words
unfolding code_run_words source_run_words
plain_words = record {
  code_apart = λ {ℓ} {k} {ℓ'} {k'} e. let z : ◌≡◌ {A = ℕ} 1 2 = cc in omega arith;
  code_steps = λ {ℓ} {k} {ℓ'} {k'} e. cc;
  source_apart = λ {k} {k'} e. let z : ◌≡◌ {A = ℕ} 1 2 = cc in omega arith;
  source_steps = λ {k} {k'} e. cc;
}

module _ {Code Source : Type 0} (tells : Verdicts Code Source) (plain : Plain tells) (t : List ℕ) (start end : ℕ) (σ : Store) (n : ℕ)
    (code : Code) (σ' : Store) (source : Source) (σ'' : Store)
    (finishes : (τ : Store) (d : Evaluates (meaning t) (program t) σ τ) → count d ≤ n → Finished tells t start end σ n code σ' source σ'' (count d) τ)
    (out : (EvaluatesWithin (meaning t) (program t) σ n → ⊥) → OutOfFuel tells t start end σ n code σ' source σ'') where
  evaluated : {τ υ : Store} {steps : ℕ} (d : Evaluates (meaning t) (program t) σ τ) → count d ≤ n → count d ≡ steps → υ ≡ τ
      → Evaluated tells t start end σ n code σ' source σ'' steps υ
  evaluated d l e left = rw (left, ← e) (record { evaluation = d; counted = refl; within = l })

  decided : Demand3 tells t start end σ n code σ' source σ''
  decided = record {
    finishes_if = λ {τ} d l. finishes τ d l;
    code_finishes_only_if = λ told. elim (within? (meaning t) (program t) n σ) [
      | yes w ↦ let f = finishes w.0 w.1 w.2 in evaluated w.1 w.2 (plain.code_steps (sym f.code_told ∙ told)) f.code_left
      | no nothing ↦ absurd (plain.code_apart (sym told ∙ (out nothing).code_told))
    ];
    source_finishes_only_if = λ told. elim (within? (meaning t) (program t) n σ) [
      | yes w ↦ let f = finishes w.0 w.1 w.2 in evaluated w.1 w.2 (plain.source_steps (sym f.source_told ∙ told)) f.source_left
      | no nothing ↦ absurd (plain.source_apart (sym told ∙ (out nothing).source_told))
    ];
    otherwise = out;
  }

-- ---- on the definitions

-- a table that compiled into the room lent, a store of 32 values, a fuel, and the ends of the two runs
module _ (t : List ℕ) (start : ℕ) (room after : List ℕ) (m : Made) (compiled : ended (Ok m) after ≡ compiling t start room)
    (σ : Store) (values : length σ ≡ 32) (n : ℕ)
    (r : Answer (End Halt)) (σ' : Store) (code-met : ended r σ' ≡ code_run t (written m after) start σ n)
    (q : Answer (End ℕ)) (σ'' : Store) (source-met : ended q σ'' ≡ source_run t σ n) where
  accepted : Accepted t
  accepted = (done_unrefused t start room m after compiled).accepted

  code_is : code_of (written m after) ≡ compile (program t) start
  code_is = let p = done_prescribed t start room m after compiled in p.words ∙ compiled_code p.compiles

  end_is : m.end ≡ start + size (program t)
  end_is = (known (done_prescribed t start room m after compiled).compiles).end

  no_refusal : code_run_refusal t (written m after) start σ ≡ none
  no_refusal =
      not_refused t (written m after) start σ accepted values (omega (arith, (done_unrefused t start room m after compiled).labels))
      (done_prescribed t start room m after compiled).accepted

  code_ends : ended r σ' ≡ code_end n (run (meaning t) (compile (program t) start) n start σ)
  unfolding code_run
  code_ends = code-met ∙ ends_unrefused _ _ _ no_refusal ∙ rw code_is

  source_ends : ended q σ'' ≡ source_end n (exec (meaning t) (program t) n σ)
  source_ends = source-met ∙ source_runs t σ n accepted values

  finishes : (τ : Store) (d : Evaluates (meaning t) (program t) σ τ) → count d ≤ n → Finished answers t start m.end σ n r σ' q σ'' (count d) τ
  unfolding code_end source_end
  finishes τ d l =
      let told = (simulation.demand_3 (meaning t) (program t) start n σ).finishes_if d l in
      let steps : n - (n - count d) ≡ count d = omega arith in
      let by_code : ended r σ' ≡ ended (Ok (End.Finished (halt m.end (count d)))) τ = code_ends ∙ ap (code_end n) told.0 ∙ rw (steps, ← end_is) refl in
      let by-source : ended q σ'' ≡ ended (Ok (End.Finished (count d))) τ = source_ends ∙ ap (source_end n) told.1 ∙ rw steps refl in
      record { code_told = answer_is by_code; code_left = after_is by_code; source_told = answer_is by-source; source_left = after_is by-source }

  runs_out : (EvaluatesWithin (meaning t) (program t) σ n → ⊥) → OutOfFuel answers t start m.end σ n r σ' q σ''
  unfolding code_end source_end
  runs_out nothing =
      let told = (simulation.demand_3 (meaning t) (program t) start n σ).otherwise_out nothing in
      let inside = told.1 in
      let by_code : ended r σ' ≡ ended (Ok (End.OutOfFuel (halt inside.label n))) told.0 = code_ends ∙ ap (code_end n) inside.is in
      let by-source : ended q σ'' ≡ ended (Ok (End.OutOfFuel n)) told.0 = source_ends ∙ ap (source_end n) told.2 in
      record {
        label = inside.label;
        from_start = inside.from_start;
        before_end = omega (arith, inside.before_end, end_is);
        code_told = answer_is by_code;
        source_told = answer_is by-source;
        same_store = after_is by-source ∙ sym (after_is by_code);
        unfinished = rw (after_is by_code) told.3;
      }

  kept : Demand3 answers t start m.end σ n r σ' q σ''
  kept = decided answers plain_answers t start m.end σ n r σ' q σ'' finishes runs_out

-- the same of calls whose arguments are equal
kept_together : (t : List ℕ) (start : ℕ) (room after : List ℕ) (m : Made) → ended (Ok m) after ≡ compiling t start room
    → (t₁ c : List ℕ) (start₁ : ℕ) (σ : Store) (n : ℕ) (r : Answer (End Halt)) (σ' : Store) → ended r σ' ≡ code_run t₁ c start₁ σ n
    → (t₂ : List ℕ) (σ₂ : Store) (n₂ : ℕ) (q : Answer (End ℕ)) (σ'' : Store) → ended q σ'' ≡ source_run t₂ σ₂ n₂
    → Together t start (written m after) t₁ c start₁ σ n t₂ σ₂ n₂ → Demand3 answers t start m.end σ n r σ' q σ''
kept_together t start room after m compiled t₁ c start₁ σ n r σ' code-met t₂ σ₂ n₂ q σ'' source-met same =
    kept t start room after m compiled σ same.values n
    r σ' (rw (same.code_table, same.code_words, same.code_start) at code-met)
    q σ'' (rw (same.source_table, same.source_store, same.source_fuel) at source-met)

-- ---- on the contracts of the public functions

module _ (κs : Lfts 2) (a : Dens κs compile-kinds.ps) (s : AtExit (ended_of 2 compile-kinds.ps compile-kinds.r) κs)
    (κs₁ : Lfts 3) (b : Dens κs₁ code-kinds.ps) (u : AtExit (ended_of 3 code-kinds.ps code-kinds.r) κs₁)
    (κs₂ : Lfts 2) (c : Dens κs₂ source-kinds.ps) (v : AtExit (ended_of 2 source-kinds.ps source-kinds.r) κs₂) where
  -- `compile` has table, start label and room; `run_code` table, code, start label, store and fuel; `run_source` table, store and fuel
  pub demand_3 : (m : Made) (r : Answer (End Halt)) (q : Answer (End ℕ))
      → compile-reads.Post κs a (Ok m) s → code_Reads.Post κs₁ b r u → source-reads.Post κs₂ c q v
      → Together a.0.now a.1.0 (written m s.1.1.0.now)
      b.0.now b.1.0.now b.1.1.0 b.1.1.1.0.now b.1.1.1.1.0
      c.0.now c.1.0.now c.1.1.0
      → Demand3 answers a.0.now a.1.0 m.end b.1.1.1.0.now b.1.1.1.1.0
      r u.1.1.1.0.now q v.1.0.now
  demand_3 m r q compiled code-met source-met same =
      kept_together _ _ _ _ m compiled _ _ _ _ _ r _ code-met _ _ _ q _ source-met same

-- ---- on the contracts of the C boundary

-- an answer that is told as done was done
compiled_done : (x : Answer Made) (m : Made) → compiled_words (Ok m) ≡ compiled_words x → x ≡ Ok m
unfolding compiled_words
compiled_done (Ok k) m e =
    let end : k.end ≡ m.end = cc in let instructions : k.instructions ≡ m.instructions = cc in
    ap₂ (λ i e. Ok (made i e)) instructions end
compiled_done (Err r) m e = let z : ◌≡◌ {A = ℕ} 0 3 = cc in absurd (omega arith)

-- verdicts told in words
module _ {t : List ℕ} {start end : ℕ} {σ : Store} {n : ℕ} {r : Answer (End Halt)} {σ' : Store} {q : Answer (End ℕ)} {σ'' : Store} where
  in_words : {v w : List ℕ} → v ≡ code_run_words r → w ≡ source_run_words q → Demand3 answers t start end σ n r σ' q σ''
      → Demand3 words t start end σ n v σ' w σ''
  in_words {v} {w} code source d = decided words plain_words t start end σ n v σ' w σ'' finishing running_out
    where
      finishing : (τ : Store) (e : Evaluates (meaning t) (program t) σ τ) → count e ≤ n → Finished words t start end σ n v σ' w σ'' (count e) τ
      finishing τ e l =
          let f = d.finishes_if e l in
          record { code_told = code ∙ ap code_run_words f.code_told; code_left = f.code_left; source_told = source ∙ ap source_run_words f.source_told; source_left = f.source_left }

      running_out : (EvaluatesWithin (meaning t) (program t) σ n → ⊥) → OutOfFuel words t start end σ n v σ' w σ''
      running_out nothing =
          let o = d.otherwise nothing in
          record {
            label = o.label;
            from_start = o.from_start;
            before_end = o.before_end;
            code_told = code ∙ ap code_run_words o.code_told;
            source_told = source ∙ ap source_run_words o.source_told;
            same_store = o.same_store;
            unfinished = o.unfinished;
          }

module _ (κs : Lfts 3) (a : Dens κs rill-compile-kinds.ps) (s : AtExit (ended_of 3 rill-compile-kinds.ps rill-compile-kinds.r) κs)
    (κs₁ : Lfts 4) (b : Dens κs₁ rill-code-kinds.ps) (u : AtExit (ended_of 4 rill-code-kinds.ps rill-code-kinds.r) κs₁)
    (κs₂ : Lfts 3) (c : Dens κs₂ rill-source-kinds.ps) (v : AtExit (ended_of 3 rill-source-kinds.ps rill-source-kinds.r) κs₂) where
  -- the arguments are in the same order, and the eight words of the answer come last
  pub demand_3_in_words : (m : Made) → rill-compile-reads.Post κs a tt s → s.1.1.1.0.now ≡ compiled_words (Ok m)
      → rill-code-reads.Post κs₁ b tt u → rill-source-reads.Post κs₂ c tt v
      → Together a.0.now a.1.0 (written m s.1.1.0.now)
      b.0.now b.1.0.now b.1.1.0 b.1.1.1.0.now b.1.1.1.1.0
      c.0.now c.1.0.now c.1.1.0
      → Demand3 words a.0.now a.1.0 m.end b.1.1.1.0.now b.1.1.1.1.0
      u.1.1.1.1.1.0.now u.1.1.1.0.now v.1.1.1.0.now v.1.0.now
  unfolding compile_call code_call source_call
  demand_3_in_words m compiled done code-met source-met same =
      let call = compiling a.0.now a.1.0 a.1.1.0.now in
      let answer : call.answer ≡ Ok m = compiled_done call.answer m (sym done ∙ answer_is compiled) in
      let is_done : ended (Ok m) s.1.1.0.now ≡ call = rw (← answer, after_is compiled) refl in
      in_words (answer_is code-met) (answer_is source-met)
      (kept_together _ _ _ _ m is_done
      _ _ _ _ _ (code_run b.0.now b.1.0.now b.1.1.0 b.1.1.1.0.now b.1.1.1.1.0).answer _ (rw (after_is code-met) refl)
      _ _ _ (source_run c.0.now c.1.0.now c.1.1.0).answer _ (rw (after_is source-met) refl) same)
