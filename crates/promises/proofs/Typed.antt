-- A typed rule, for the public functions and for the calls of the C boundary: whatever they answer, if they meet their contracts, as the check
-- states them. Assumes nothing.
use mathlib.Core.Path.{◌≡◌, refl, sym, ap, ◌∙◌}
use Prim.Native.Nat.{ℕ, ◌≤◌}
use lib.ListN.{length, take}
use contract.Lifetimes.{Lfts}
use denote.Triple.Clauses.{AtExit}
use borrow.Fn.Kinds.{Dens, ended_of}
use Rattle.rules.specs.Expression.{Store}
use Rattle.rules.specs.Table.{Accepted}
use Rattle.rules.specs.Answer.{ended, checked_words, source_run_words, text_words, Answer}
use Rattle.rules.specs.declared.Refusal.{Refusal}
use Rattle.rules.proofs.EndedLaws.{answer_is, after_is}
use Rattle.grammar.specs.Rule.{Rule}
use Rattle.grammar.specs.Layout.{InGrammar}
use Rattle.grammar.specs.Written.{table_of}
use Rattle.source.specs.SourceRun.{source_run}
use Rattle.rule.specs.ReadingRule.{reading_rule}
use Rattle.boundary.specs.Calls.{check_call, source_call, rule_call}
use Rattle.table.proofs.check.Kinds as check-kinds
use Rattle.table.proofs.check.Reads as check-reads
use Rattle.source.proofs.run_source.Kinds as source-kinds
use Rattle.source.proofs.run_source.Reads as source-reads
use Rattle.rule.proofs.read_rule.Kinds as rule-kinds
use Rattle.rule.proofs.read_rule.Reads as rule-reads
use Rattle.boundary.proofs.rill_check.Kinds as rill-check-kinds
use Rattle.boundary.proofs.rill_check.Reads as rill-check-reads
use Rattle.boundary.proofs.rill_run_source.Kinds as rill-source-kinds
use Rattle.boundary.proofs.rill_run_source.Reads as rill-source-reads
use Rattle.boundary.proofs.rill_read_rule.Kinds as rill-rule-kinds
use Rattle.boundary.proofs.rill_read_rule.Reads as rill-rule-reads
use Rattle.promises.specs.Demand3 as demand
use Rattle.promises.specs.Demand3.{Verdicts, Demand3}
use Rattle.promises.specs.Typed.{Accepts, Refuses, SourceFollows, TypedDemand3}
use Rattle.promises.proofs.Demand3.{plain_answers, plain_words}
use Rattle.promises.proofs.TypedReading.{read_done, read_unrefused, read_refused, text_told}
use Rattle.promises.proofs.TypedRuns.{checked, source_follows, demand_of_tree, table_is, same_as_tree, written_passes}
use Rattle.rules.specs.declared.End.{End}
use Rattle.std.specs.Prelude.{Ok, Err}

-- ---- on the contracts of the public functions

-- a call of `read_rule`, which has text and room, that was done with n words
module _ (κs : Lfts 2) (a : Dens κs rule-kinds.ps) (s : AtExit (ended_of 2 rule-kinds.ps rule-kinds.r) κs) where
  pub read_rule_accepts : (n : ℕ) → rule-reads.Post κs a (Ok n) s → Accepts a.0.now a.1.0.now n s.1.0.now
  read_rule_accepts n met = read_done _ _ _ n met

  pub read_rule_accepts_if : {p : Rule} → InGrammar a.0.now p → Accepted (table_of p) → length (table_of p) ≤ length a.1.0.now
      → (x : Answer ℕ) → rule-reads.Post κs a x s → x ≡ Ok (length (table_of p))
  read_rule_accepts_if g ok fits x met = read_unrefused _ _ _ g ok fits x met

  pub read_rule_refuses : (q : Refusal) → rule-reads.Post κs a (Err q) s
      → Refuses a.0.now (length a.1.0.now) q × (s.1.0.now ≡ a.1.0.now)
  read_rule_refuses q met = read_refused _ _ _ q met

  module _ (n : ℕ) (done : rule-reads.Post κs a (Ok n) s) where
    -- any check of these words is done
    pub typed_checks : (κs₁ : Lfts 1) (b : Dens κs₁ check-kinds.ps) (u : AtExit (ended_of 1 check-kinds.ps check-kinds.r) κs₁) (x : Answer (Unit {0}))
        → check-reads.Post κs₁ b x u → b.0.now ≡ take n s.1.0.now → x ≡ Ok tt
    typed_checks κs₁ b u x met table = checked (read_rule_accepts n done) x (rw table at met)

    -- any source run of these words, from any store of 32 values, with any fuel
    pub typed_runs : {p : Rule} → InGrammar a.0.now p
        → (κs₁ : Lfts 2) (b : Dens κs₁ source-kinds.ps) (u : AtExit (ended_of 2 source-kinds.ps source-kinds.r) κs₁) (x : Answer (End ℕ))
        → source-reads.Post κs₁ b x u → b.0.now ≡ take n s.1.0.now → length b.1.0.now ≡ 32
        → SourceFollows demand.answers p b.1.0.now b.1.1.0 x u.1.0.now
    typed_runs {p} g κs₁ b u x met table values =
        let read = read_rule_accepts n done in
        source_follows _ p (same_as_tree read g) (written_passes read g) _ values _ x _ (rw table at met)
        demand.answers plain_answers (λ q. q) (λ k. refl) (λ k. refl) refl

    -- where demand 3 holds of these words, as `demand_3` has it of any answers that meet the contracts, it holds of the tree that was typed
    pub typed_demand_3 : {p : Rule} → InGrammar a.0.now p → {Code Source : Type 0} {tells : Verdicts Code Source} {start end : ℕ} {σ : Store}
        {fuel : ℕ} {code : Code} {σ' : Store} {source : Source} {σ'' : Store}
        → Demand3 tells (take n s.1.0.now) start end σ fuel code σ' source σ''
        → TypedDemand3 tells p start end σ fuel code σ' source σ''
    typed_demand_3 {p} g d = let read = read_rule_accepts n done in demand_of_tree _ p (same_as_tree read g) (table_is read g) d

-- ---- on the contracts of the C boundary

-- a call of `rill_read_rule`: text, room, and the eight words of the answer
module _ (κs : Lfts 3) (a : Dens κs rill-rule-kinds.ps) (s : AtExit (ended_of 3 rill-rule-kinds.ps rill-rule-kinds.r) κs)
    (met : rill-rule-reads.Post κs a tt s) where
  answered : (x : Answer ℕ) → s.1.1.0.now ≡ text_words x → ended x s.1.0.now ≡ reading_rule a.0.now a.1.0.now
  unfolding rule_call
  answered x words =
      let is : x ≡ (reading_rule a.0.now a.1.0.now).answer = text_told _ _ (sym words ∙ answer_is met) in
      rw (is, after_is met) refl

  pub read_rule_accepts_in_words : (n : ℕ) → s.1.1.0.now ≡ text_words (Ok n)
      → Accepts a.0.now a.1.0.now n s.1.0.now
  read_rule_accepts_in_words n words = read_done _ _ _ n (answered _ words)

  pub read_rule_accepts_if_in_words : {p : Rule} → InGrammar a.0.now p → Accepted (table_of p) → length (table_of p) ≤ length a.1.0.now
      → s.1.1.0.now ≡ text_words (Ok (length (table_of p)))
  unfolding rule_call
  read_rule_accepts_if_in_words g ok fits =
      let call = reading_rule a.0.now a.1.0.now in
      answer_is met ∙ ap text_words (read_unrefused a.0.now a.1.0.now s.1.0.now g ok fits call.answer (rw (after_is met) refl))

  pub read_rule_refuses_in_words : (q : Refusal) → s.1.1.0.now ≡ text_words (Err q)
      → Refuses a.0.now (length a.1.0.now) q × (s.1.0.now ≡ a.1.0.now)
  read_rule_refuses_in_words q words = read_refused _ _ _ q (answered _ words)

  module _ (n : ℕ) (done : s.1.1.0.now ≡ text_words (Ok n)) where
    pub typed_checks_in_words : (κs₁ : Lfts 2) (b : Dens κs₁ rill-check-kinds.ps) (u : AtExit (ended_of 2 rill-check-kinds.ps rill-check-kinds.r) κs₁)
        → rill-check-reads.Post κs₁ b tt u → b.0.now ≡ take n s.1.0.now → u.1.0.now ≡ checked_words (Ok tt)
    unfolding check_call
    typed_checks_in_words κs₁ b u told table =
        let read = read_rule_accepts_in_words n done in
        told ∙ ap checked_words (checked read _ (rw table refl))

    pub typed_runs_in_words : {p : Rule} → InGrammar a.0.now p
        → (κs₁ : Lfts 3) (b : Dens κs₁ rill-source-kinds.ps) (u : AtExit (ended_of 3 rill-source-kinds.ps rill-source-kinds.r) κs₁)
        → rill-source-reads.Post κs₁ b tt u → b.0.now ≡ take n s.1.0.now → length b.1.0.now ≡ 32
        → SourceFollows demand.words p b.1.0.now b.1.1.0 u.1.1.1.0.now u.1.0.now
    unfolding source_call
    typed_runs_in_words {p} g κs₁ b u told table values =
        let read = read_rule_accepts_in_words n done in
        let run = source_run b.0.now b.1.0.now b.1.1.0 in
        source_follows _ p (same_as_tree read g) (written_passes read g) _ values _ run.answer _ (rw (← table, after_is told) refl)
        demand.words plain_words source_run_words (λ k. refl) (λ k. refl) (answer_is told)

    pub typed_demand_3_in_words : {p : Rule} → InGrammar a.0.now p → {Code Source : Type 0} {tells : Verdicts Code Source} {start end : ℕ}
        {σ : Store} {fuel : ℕ} {code : Code} {σ' : Store} {source : Source} {σ'' : Store}
        → Demand3 tells (take n s.1.0.now) start end σ fuel code σ' source σ''
        → TypedDemand3 tells p start end σ fuel code σ' source σ''
    typed_demand_3_in_words {p} g d =
        let read = read_rule_accepts_in_words n done in demand_of_tree _ p (same_as_tree read g) (table_is read g) d
