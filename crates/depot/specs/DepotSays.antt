-- What a depot's answer says, with the stores and the room after it: in which case it is refused 10 or 16, or done, and what it leaves alone.
use Rattle.std.specs.Prelude.{◌≡◌, ◌↔◌, List, ℕ, ◌*◌, ◌%◌, ◌<◌, ◌≤◌, ℤ, length, drop, Ok, Err}
use Rattle.std.proofs.Math.Option.{none}
use Rattle.rules.specs.Table.{Accepted}
use Rattle.rules.specs.CodeWords.{code_refusal}
use Rattle.rules.specs.Refusal.{refusal}
use Rattle.rules.specs.declared.Refusal.{Refusal}
use Rattle.depot.specs.Depot.{crews}
use Rattle.rules.specs.Answer.{Answer}

-- not "a length that isn't a multiple of 32 or exceeds 16,384"
pub record StoresFit (stores : List ℤ) : Type 0 where
  pub whole : length stores % 32 ≡ 0
  pub few : length stores ≤ 16384

-- nothing but the room can be refused
pub record AllButRoom (t c : List ℕ) (start : ℕ) (stores : List ℤ) : Type 0 where
  pub table : Accepted t
  pub stores_fit : StoresFit stores
  pub label : start ≤ 65535
  pub code : code_refusal t c ≡ none

pub record DepotSays (t c : List ℕ) (start : ℕ) (stores : List ℤ) (room : List ℕ) (x : Answer (Unit {0})) (stores' : List ℤ) (room' : List ℕ) : Type 0 where
  -- "10 becomes a length that isn't a multiple of 32 or exceeds 16,384"
  pub ten : (x ≡ Err (refusal 10 0)) ↔ (Accepted t × (StoresFit stores → ⊥))
  -- "16, answer room under three words a crew, comes last, place 0"
  pub sixteen : (x ≡ Err (refusal 16 0)) ↔ (AllButRoom t c start stores × (length room < 3 * crews stores))
  -- "It answers done"
  pub done : (x ≡ Ok tt) ↔ (AllButRoom t c start stores × (3 * crews stores ≤ length room))
  -- a refusal alters neither the stores nor the room
  pub unaltered : (r : Refusal) → x ≡ Err r → (stores' ≡ stores) × (room' ≡ room)
  -- and a depot that is done has as many values as before, and nothing in its room behind the crews' words is touched
  pub only_crews : x ≡ Ok tt → (length stores' ≡ length stores) × (drop (3 * crews stores) room' ≡ drop (3 * crews stores) room)
