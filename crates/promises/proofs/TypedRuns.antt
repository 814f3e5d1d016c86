-- The words of a typed rule's table pass the check, and a run of them follows the While rules of the tree that was typed.
use mathlib.Core.Path.{◌≡◌, refl, sym, ap, ◌∙◌}
use mathlib.Core.List.{List}
use Prim.Native.Nat.{ℕ, ◌-◌, ◌≤◌}
use native.Mathlib.Omega.{arith}
use lib.ListN.{length, take}
use Rattle.rules.specs.Expression.{Store}
use Rattle.rules.specs.While.{count, Outcome, done, stop, exec}
use Rattle.rules.specs.Table.{meaning, program, Accepted}
use Rattle.rules.specs.Answer.{ended, Answer}
use Rattle.rules.proofs.EndedLaws.{answer_is, after_is}
use Rattle.rules.proofs.WhileLaws as while-laws
use Rattle.rules.proofs.WhileLaws.{evaluated, unfinished, says, finds, within?}
use Rattle.grammar.specs.Rule.{Rule}
use Rattle.grammar.specs.Layout.{InGrammar}
use Rattle.grammar.specs.Written.{table_of}
use Rattle.grammar.specs.Evaluation.{Evaluates, Unfinished, Follows}
use Rattle.grammar.proofs.table.Follows.{follows}
use Rattle.table.specs.Checking.{answer, checking}
use Rattle.source.specs.SourceRun.{source_end, source_run}
use Rattle.source.proofs.Endings.{source_runs}
use Rattle.promises.specs.Demand3 as demand
use Rattle.promises.specs.Demand3.{Verdicts, Demand3}
use Rattle.promises.specs.Typed.{Accepts, EvaluatesWithin, SourceFollows, TypedDemand3}
use Rattle.promises.proofs.Demand3.{Plain}
use Rattle.rules.specs.declared.End.{End}
use Rattle.std.specs.Prelude.{Ok}

-- ---- the words that were written pass the check

module _ {text room : List ℕ} {n : ℕ} {after : List ℕ} (read : Accepts text room n after) where
  pub checked : (x : Answer (Unit {0})) → x ≡ checking (take n after) → x ≡ Ok tt
  unfolding checking answer
  checked x e = e ∙ rw (read.front, read.passes) refl

-- ---- a run follows the While rules of the tree that was typed

-- a table that does what the tree p does, and the end of a source run of it
module _ (t : List ℕ) (p : Rule) (same : Follows (meaning t) (program t) p) where
  module _ (accepts : Accepted t) (σ : Store) (values : length σ ≡ 32) (n : ℕ) (q : Answer (End ℕ)) (σ' : Store) (met : ended q σ' ≡ source_run t σ n) where
    ends : ended q σ' ≡ source_end n (exec (meaning t) (program t) n σ)
    ends = met ∙ source_runs t σ n accepts values

    finishes : {k : ℕ} {τ : Store} → Evaluates p σ k τ → k ≤ n → (q ≡ Ok (End.Finished k)) × (σ' ≡ τ)
    unfolding source_end
    finishes {k} {τ} e l =
        let d = same.evaluated e in
        let steps : n - (n - count d.0) ≡ k = omega (arith, d.1) in
        let is : ended q σ' ≡ ended (Ok (End.Finished k)) τ =
        ends ∙ ap (source_end n) (finds (meaning t) d.0 n (omega (arith, d.1))) ∙ rw steps refl in
        (answer_is is, after_is is)

    runs_out : (EvaluatesWithin p σ n → ⊥) → (q ≡ Ok (End.OutOfFuel n)) × Unfinished p σ n σ'
    unfolding source_end
    runs_out nothing = of (exec (meaning t) (program t) n σ) refl (says (meaning t) (program t) n σ)
      where
        of : (o : Outcome) → exec (meaning t) (program t) n σ ≡ o → while-laws.Says (meaning t) (program t) n σ o
            → (q ≡ Ok (End.OutOfFuel n)) × Unfinished p σ n σ'
        of (done τ left) e (evaluated l d s) = absurd (nothing (record { steps = _; store = _; evaluation = same.evaluates d; within = omega arith }))
        of (stop τ) e (unfinished u) =
            let is : ended q σ' ≡ ended (Ok (End.OutOfFuel n)) τ = ends ∙ ap (source_end n) e in
            (answer_is is, rw (after_is is) (same.unfinished u))

    -- told in any way that keeps the verdicts apart
    pub source_follows : {Code Source : Type 0} (tells : Verdicts Code Source) → Plain tells → (tell : Answer (End ℕ) → Source)
        → ((k : ℕ) → tell (Ok (End.Finished k)) ≡ tells.source_finished k) → ((k : ℕ) → tell (Ok (End.OutOfFuel k)) ≡ tells.source_out k)
        → {x : Source} → x ≡ tell q → SourceFollows tells p σ n x σ'
    source_follows tells plain tell finished out {x} told = record {
      finishes_if = λ {k} {τ} e l. let f = finishes e l in (told ∙ ap tell f.0 ∙ finished k, f.1);
      finishes_only_if = λ {k} e. elim (within? (meaning t) (program t) n σ) [
        | yes w ↦
            let f = finishes (same.evaluates w.1) w.2 in
            let steps : count w.1 ≡ k = plain.source_steps (sym (told ∙ ap tell f.0 ∙ finished _) ∙ e) in
            (rw (f.1, ← steps) (same.evaluates w.1), rw (← steps) w.2)
        | no nothing ↦
            let o = runs_out (λ v. let d = same.evaluated v.evaluation in nothing (v.store, d.0, rw d.1 v.within)) in
            absurd (plain.source_apart (sym e ∙ told ∙ ap tell o.0 ∙ out n))
      ];
      otherwise = λ nothing. let o = runs_out nothing in (told ∙ ap tell o.0 ∙ out n, o.1);
    }

  -- demand 3 of the table is demand 3 of the tree
  pub demand_of_tree : {Code Source : Type 0} {tells : Verdicts Code Source} {start end : ℕ} {σ : Store} {n : ℕ}
      {code : Code} {σ' : Store} {source : Source} {σ'' : Store} → t ≡ table_of p
      → Demand3 tells t start end σ n code σ' source σ'' → TypedDemand3 tells p start end σ n code σ' source σ''
  demand_of_tree {tells} {start} {end} {σ} {n} {code} {σ'} {source} {σ''} table d = record {
    finishes_if = λ {k} {τ} e l.
        let w = same.evaluated e in
        rw (← w.1, ← table) (d.finishes_if w.0 (rw w.1 l));
    code_finishes_only_if = λ e. of (d.code_finishes_only_if e);
    source_finishes_only_if = λ e. of (d.source_finishes_only_if e);
    otherwise = λ nothing.
        let o = d.otherwise (λ w. nothing (record { steps = _; store = _; evaluation = same.evaluates w.1; within = w.2 })) in
        (rw (← table) o, same.unfinished o.unfinished);
  }
    where
      of : {k : ℕ} {τ : Store} → demand.Evaluated tells t start end σ n code σ' source σ'' k τ → Evaluates p σ k τ × (k ≤ n)
      of v = (rw (← v.counted) (same.evaluates v.evaluation), v.within)

-- the words that were written, and any tree that the text reads as
module _ {text room : List ℕ} {n : ℕ} {after : List ℕ} (read : Accepts text room n after) {p : Rule} (g : InGrammar text p) where
  pub table_is : take n after ≡ table_of p
  table_is = read.front ∙ ap table_of (sym (read.only p g))

  pub same_as_tree : Follows (meaning (take n after)) (program (take n after)) p
  same_as_tree = rw table_is (follows g)

  pub written_passes : Accepted (take n after)
  written_passes = rw read.front read.passes
