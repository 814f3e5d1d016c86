-- A depot in one call (02, A1): for every input the answer, and what the stores and the room hold then.
use Rattle.std.specs.Prelude.{ℕ, ◌*◌, ◌/◌, ◌%◌, not, ◌&&◌, List, [], ◌∷◌, eqb, ltb, leb, ℤ, length, take, drop, Ok, Err}
use Rattle.std.proofs.Math.Option.{Option}
use Rattle.std.proofs.lemmas.List.Edits.{sets}
use Rattle.rules.specs.Expression.{Store}
use Rattle.rules.specs.Lists.{joined}
use Rattle.rules.specs.Refusal.{refuse, ◌or_else◌}
use Rattle.rules.specs.Answer.{Ended, ended, unless_refused, Answer}
use Rattle.rules.specs.declared.Refusal.{Refusal}
use Rattle.instructions.specs.Admission.{admission}
use Rattle.code.specs.CodeRun.{code_run}
use Rattle.rules.specs.declared.End.{End}
use Rattle.rules.specs.declared.Halt.{Halt}

-- "Take up to 512 stores back to back": crew i's is the 32 values from 32 * i on
abbrev pub crews : List ℤ → ℕ
crews stores = length stores / 32

abbrev pub crew : List ℤ → ℕ → Store
crew stores i = take 32 (drop (32 * i) stores)

-- "three words a crew: verdict, label, steps. Verdict is 0 (finished) or 1 (out of fuel)." What refuses one crew refuses the depot.
unfoldable pub crew_words : Answer (End Halt) → List ℕ
crew_words (Ok (End.Finished h)) = 0 ∷ h.label ∷ h.steps ∷ []
crew_words (Ok (End.OutOfFuel h)) = 1 ∷ h.label ∷ h.steps ∷ []
crew_words (Err r) = []

-- "10 becomes a length that isn't a multiple of 32 or exceeds 16,384"
abbrev pub stores_refusal : List ℤ → Option Refusal
stores_refusal stores = refuse (not (eqb (length stores % 32) 0 && leb (length stores) 16384)) 10 0

-- "16, answer room under three words a crew, comes last, place 0"
abbrev pub depot_refusal : List ℕ → List ℕ → ℕ → List ℤ → List ℕ → Option Refusal
depot_refusal t c start stores room = admission t c start (stores_refusal stores) or_else refuse (ltb (length room) (3 * crews stores)) 16 0

-- what a depot is lent to write to
pub record Lent : Type 0 where
  pub stores : List ℤ
  pub room : List ℕ

abbrev pub lent : List ℤ → List ℕ → Lent
lent stores room = record { stores = stores; room = room }

-- table, code, "one start label and one fuel for all", and the stores
module _ (t c : List ℕ) (start : ℕ) (stores : List ℤ) (fuel : ℕ) where
  -- "Each crew's part of the lent stores is lent on to the ordinary code run."
  abbrev pub crew_run : ℕ → Ended (Answer (End Halt)) Store
  crew_run i = code_run t c start (crew stores i) fuel

  -- "The whole must equal the crews run one by one": their stores back to back, and their words from the front of the room on
  unfoldable pub crews_run : List ℕ → Lent
  crews_run room =
      lent (joined (λ i. (crew_run i).after) (crews stores)) (sets room 0 (joined (λ i. crew_words (crew_run i).answer) (crews stores)))

  -- "It answers done; no crews is valid."
  unfoldable pub depot : List ℕ → Ended (Answer (Unit {0})) Lent
  depot room = unless_refused (depot_refusal t c start stores room) (lent stores room) (ended (Ok tt) (crews_run room))
