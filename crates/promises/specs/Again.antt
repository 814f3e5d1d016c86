-- Demand 2 for text: "Accepted text read and written again gives its own bytes; accepted words written and read again give their own words."
-- Both sentences are about two calls, the second of which is given what the first wrote.
use Rattle.std.specs.Prelude.{◌≡◌, List, ℕ, ◌<◌, ◌≤◌, length, get_or, take, Ok}
use Rattle.std.proofs.lemmas.List.Edits.{sets}
use Rattle.rules.specs.Answer.{Ended, ended, Answer}

-- a call as its caller sees it: what it was given, the room that it was lent, its answer, and what that room holds then
pub record Call : Type 0 where
  pub given : List ℕ
  pub room : List ℕ
  pub answer : Answer ℕ
  pub after : List ℕ

abbrev pub Meets : (List ℕ → List ℕ → Ended (Answer ℕ) (List ℕ)) → Call → Type 0
Meets definition c = ended c.answer c.after ≡ definition c.given c.room

-- what the first call was given is accepted, the second is given what the first wrote, and has room for what the first was given
pub record Again (first second : Call) : Type 0 where
  pub amount : ℕ
  pub accepted : first.answer ≡ Ok amount
  pub given_back : second.given ≡ take amount first.after
  pub enough : length first.given ≤ length second.room

-- the second call wrote what the first was given, whole, to the front of its room, and nothing else
pub record GivesBack (first second : Call) : Type 0 where
  pub answer : second.answer ≡ Ok (length first.given)
  pub left : second.after ≡ sets second.room 0 first.given
  pub front : take (length first.given) second.after ≡ first.given

-- each element is a word of 32 bits, as those behind a `&[u32]` are
abbrev pub Words : List ℕ → Type 0
Words ws = (i : ℕ) → i < length ws → get_or ws i 0 < 4294967296
