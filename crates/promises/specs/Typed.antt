-- Request A4 (02): what a typed rule promises. First what reading it answers; then what a source run of the words that were written does, stated
-- over the ways in which runs tell their verdicts: the answers of the functions, and the eight words of the C boundary.
use Rattle.std.specs.Prelude.{◌≡◌, List, ℕ, ◌<◌, ◌≤◌, length, take, drop}
use Rattle.rules.specs.Expression.{Store}
use Rattle.rules.specs.Refusal.{refusal}
use Rattle.rules.specs.Table.{Accepted}
use Rattle.rules.specs.declared.Refusal.{Refusal}
use Rattle.grammar.specs.Rule.{Rule}
use Rattle.grammar.specs.Layout.{InGrammar, Longest}
use Rattle.grammar.specs.Written.{rule_node, size, depth, table_of}
use Rattle.grammar.specs.Typed.{told}
use Rattle.grammar.specs.Evaluation.{Evaluates, Unfinished}
use Rattle.promises.specs.Demand3.{Verdicts, Finished, OutOfFuel}

-- ---- what reading answers: done with n words, or refused

-- "Text is accepted exactly if it is in this grammar, its table passes 01 and fits the room; it has one reading only": the first n words of the
-- room are its table, and what lies behind them is as it was
pub record Accepts (text room : List ℕ) (n : ℕ) (after : List ℕ) : Type 0 where
  pub rule : Rule
  pub typed : InGrammar text rule
  pub only : (p : Rule) → InGrammar text p → p ≡ rule
  pub passes : Accepted (table_of rule)
  pub words : n ≡ length (table_of rule)
  pub fits : n ≤ length room
  pub front : take n after ≡ table_of rule
  pub rest : drop n after ≡ drop n room

-- "Refusals: 17, not in the grammar, place the length of its longest beginning that also begins a text of the grammar; then 1, 9, 15."
-- A text that is in the grammar is refused 1, 9 or 15 only.
pub data Refuses (text : List ℕ) (room : ℕ) : Refusal → Type 0 where
  outside : {k : ℕ} → ((p : Rule) → InGrammar text p → ⊥) → Longest text k → Refuses text room (refusal 17 (told k))
  many : {p : Rule} → InGrammar text p → 1024 < size (rule_node p) → Refuses text room (refusal 1 0)
  deep : {p : Rule} → InGrammar text p → size (rule_node p) ≤ 1024 → 256 < depth (rule_node p) → Refuses text room (refusal 9 0)
  short : {p : Rule} → InGrammar text p → size (rule_node p) ≤ 1024 → depth (rule_node p) ≤ 256 → room < length (table_of p)
      → Refuses text room (refusal 15 0)

-- ---- what a run does

-- the While rules give an evaluation of the tree p from σ whose count is at most n
pub record EvaluatesWithin (p : Rule) (σ : Store) (n : ℕ) : Type 0 where
  pub steps : ℕ
  pub store : Store
  pub evaluation : Evaluates p σ steps store
  pub within : steps ≤ n

-- a source run follows the While rules of the tree p: it finishes exactly if they give an evaluation from σ whose count is at most n, with that
-- count and store; otherwise it is out of fuel after n, and the store has exactly the assignments among the first n units
pub record SourceFollows {Code Source : Type 0} (tells : Verdicts Code Source) (p : Rule) (σ : Store) (n : ℕ) (source : Source) (σ' : Store)
    : Type 0 where
  pub finishes_if : {k : ℕ} {τ : Store} → Evaluates p σ k τ → k ≤ n → (source ≡ tells.source_finished k) × (σ' ≡ τ)
  pub finishes_only_if : {k : ℕ} → source ≡ tells.source_finished k → Evaluates p σ k σ' × (k ≤ n)
  pub otherwise : (EvaluatesWithin p σ n → ⊥) → (source ≡ tells.source_out n) × Unfinished p σ n σ'

-- demand 3 over the tree that was typed, of the code that its table compiled to and of the source run: `Demand3` with the While rules of the tree
pub record TypedDemand3 {Code Source : Type 0} (tells : Verdicts Code Source) (p : Rule) (start end : ℕ) (σ : Store) (n : ℕ)
    (code : Code) (σ' : Store) (source : Source) (σ'' : Store) : Type 0 where
  pub finishes_if : {k : ℕ} {τ : Store} → Evaluates p σ k τ → k ≤ n → Finished tells (table_of p) start end σ n code σ' source σ'' k τ
  pub code_finishes_only_if : {label k : ℕ} → code ≡ tells.code_finished label k → Evaluates p σ k σ' × (k ≤ n)
  pub source_finishes_only_if : {k : ℕ} → source ≡ tells.source_finished k → Evaluates p σ k σ'' × (k ≤ n)
  pub otherwise : (EvaluatesWithin p σ n → ⊥) → OutOfFuel tells (table_of p) start end σ n code σ' source σ'' × Unfinished p σ n σ'
