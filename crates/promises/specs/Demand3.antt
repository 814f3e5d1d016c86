-- Demand 3, as a statement about three calls: `compile`, a run of the code that it wrote, and the source run, of one table, start label, store
-- and fuel. It is stated once, over the ways in which the runs tell their verdicts: the answers of the functions, and the eight words of the
-- C boundary.
use Rattle.std.specs.Prelude.{◌≡◌, List, ℕ, ◌<◌, ◌≤◌, length, Ok}
use Rattle.rules.specs.Expression.{Store}
use Rattle.rules.specs.While.{Evaluates, count, EvaluatesWithin, Unfinished}
use Rattle.rules.specs.Table.{meaning, program}
use Rattle.rules.specs.Answer.{source_run_words, code_run_words, Answer}
use Rattle.code.specs.CodeSays.{halt}
use Rattle.rules.specs.declared.End.{End}
use Rattle.rules.specs.declared.Halt.{Halt}

-- how the two runs tell that they finished or ran out of fuel: a code run with label and steps, a source run with steps
pub record Verdicts (Code Source : Type 0) : Type 0 where
  pub code_finished : ℕ → ℕ → Code
  pub code_out : ℕ → ℕ → Code
  pub source_finished : ℕ → Source
  pub source_out : ℕ → Source

abbrev pub answers : Verdicts (Answer (End Halt)) (Answer (End ℕ))
answers = record {
  code_finished = λ label steps. Ok (End.Finished (halt label steps));
  code_out = λ label steps. Ok (End.OutOfFuel (halt label steps));
  source_finished = λ steps. Ok (End.Finished steps);
  source_out = λ steps. Ok (End.OutOfFuel steps);
}

-- "a definition states this paper's number and values for each of the enum's cases, and the promises use that definition"
abbrev pub words : Verdicts (List ℕ) (List ℕ)
words = record {
  code_finished = λ label steps. code_run_words (Ok (End.Finished (halt label steps)));
  code_out = λ label steps. code_run_words (Ok (End.OutOfFuel (halt label steps)));
  source_finished = λ steps. source_run_words (Ok (End.Finished steps));
  source_out = λ steps. source_run_words (Ok (End.OutOfFuel steps));
}

-- the three calls are of one table, one start label, the code that was written, one store of 32 values and one fuel
pub record Together (t : List ℕ) (start : ℕ) (written : List ℕ) (t₁ c : List ℕ) (start₁ : ℕ) (σ : Store) (n : ℕ) (t₂ : List ℕ) (σ₂ : Store) (n₂ : ℕ)
    : Type 0 where
  pub code_table : t₁ ≡ t
  pub code_words : c ≡ written
  pub code_start : start₁ ≡ start
  pub values : length σ ≡ 32
  pub source_table : t₂ ≡ t
  pub source_store : σ₂ ≡ σ
  pub source_fuel : n₂ ≡ n

-- a table t that compiled from `start` to `end`, a store, a fuel n; what the code run told and left, and what the source run did
module _ {Code Source : Type 0} (tells : Verdicts Code Source) (t : List ℕ) (start end : ℕ) (σ : Store) (n : ℕ)
    (code : Code) (σ' : Store) (source : Source) (σ'' : Store) where
  -- both finished, after so many steps, with this store, and the code run at the end label
  pub record Finished (steps : ℕ) (τ : Store) : Type 0 where
    pub code_told : code ≡ tells.code_finished end steps
    pub code_left : σ' ≡ τ
    pub source_told : source ≡ tells.source_finished steps
    pub source_left : σ'' ≡ τ

  -- both are out of fuel after n, with one store, which has exactly the assignments among the first n units
  pub record OutOfFuel : Type 0 where
    pub label : ℕ
    pub from_start : start ≤ label
    pub before_end : label < end
    pub code_told : code ≡ tells.code_out label n
    pub source_told : source ≡ tells.source_out n
    pub same_store : σ'' ≡ σ'
    pub unfinished : Unfinished (meaning t) (program t) σ n σ'

  -- the While rules give an evaluation of this count, at most n, to this store
  pub record Evaluated (steps : ℕ) (τ : Store) : Type 0 where
    pub evaluation : Evaluates (meaning t) (program t) σ τ
    pub counted : count evaluation ≡ steps
    pub within : steps ≤ n

  -- "the compiled code, begun at its start label, finishes exactly if the While rules give an evaluation from that store whose count, taken on
  -- the While rules alone, is at most n; it then stands at the end label with that store and count. Otherwise it is out of fuel after n steps.
  -- The source run gives the same verdict, count and store in both cases."
  pub record Demand3 : Type 0 where
    pub finishes_if : {τ : Store} (d : Evaluates (meaning t) (program t) σ τ) → count d ≤ n → Finished (count d) τ
    pub code_finishes_only_if : {label steps : ℕ} → code ≡ tells.code_finished label steps → Evaluated steps σ'
    pub source_finishes_only_if : {steps : ℕ} → source ≡ tells.source_finished steps → Evaluated steps σ''
    pub otherwise : (EvaluatesWithin (meaning t) (program t) σ n → ⊥) → OutOfFuel
