-- Request A1 (02): "The whole must equal the crews run one by one." It is a statement about a depot's call and a code run on the store of one of
-- its crews, and is stated once, over the ways in which a code run tells its answer: that of the function, and the eight words of the C boundary.
use Rattle.std.specs.Prelude.{◌≡◌, ◌↔◌, List, [], ◌∷◌, ℕ, ◌-◌, ◌*◌, ◌<◌, ℤ, get_or, take, drop, Ok}
use Rattle.rules.specs.Expression.{Store}
use Rattle.rules.specs.declared.Halt.{Halt}
use Rattle.depot.specs.Depot.{crews, crew, crew_words}
use Rattle.rules.specs.Answer.{Answer}
use Rattle.rules.specs.declared.End.{End}

-- what the answer of a code run says: its verdict, and a crew's three words
pub record Telling (Run : Type 0) : Type 1 where
  pub finished : Run → Type 0
  pub out_of_fuel : Run → Type 0
  pub three_words : Run → List ℕ

abbrev pub answers : Telling (Answer (End Halt))
answers = record {
  finished = λ x. (h : Halt) × (x ≡ Ok (End.Finished h));
  out_of_fuel = λ x. (h : Halt) × (x ≡ Ok (End.OutOfFuel h));
  three_words = crew_words;
}

-- of the eight words: verdict (1 finished, 2 out of fuel), number, place, label, amount
abbrev pub words : Telling (List ℕ)
words = record {
  finished = λ w. get_or w 0 0 ≡ 1;
  out_of_fuel = λ w. get_or w 0 0 ≡ 2;
  three_words = λ w. (get_or w 0 0 - 1) ∷ get_or w 3 0 ∷ get_or w 4 0 ∷ [];
}

-- a code run is of a depot's table, code, start label and fuel, on the store of its crew i alone
pub record RunOfCrew (i : ℕ) (t c : List ℕ) (start : ℕ) (stores : List ℤ) (n : ℕ) (t₁ c₁ : List ℕ) (start₁ : ℕ) (σ : Store) (n₁ : ℕ) : Type 0 where
  pub inside : i < crews stores
  pub table : t₁ ≡ t
  pub code : c₁ ≡ c
  pub start_label : start₁ ≡ start
  pub store : σ ≡ crew stores i
  pub fuel : n₁ ≡ n

-- the stores and the room that the depot left, and what crew i's own run told and left: its part is that store, and its row those three words.
-- "Verdict is 0 (finished) or 1 (out of fuel)."
pub record OneByOne {Run : Type 0} (tells : Telling Run) (i : ℕ) (stores' : List ℤ) (room' : List ℕ) (x : Run) (σ' : Store) : Type 0 where
  pub store : crew stores' i ≡ σ'
  pub three_words : take 3 (drop (3 * i) room') ≡ tells.three_words x
  pub verdict_0 : (get_or room' (3 * i) 2 ≡ 0) ↔ tells.finished x
  pub verdict_1 : (get_or room' (3 * i) 2 ≡ 1) ↔ tells.out_of_fuel x
