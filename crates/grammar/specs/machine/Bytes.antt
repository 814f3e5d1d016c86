-- The machine that reads bytes one by one: the machine on tokens, and what is pending of the next token. A token is closed by the byte
-- that cannot go on with it, or by the end of the text.
use Rattle.std.specs.Prelude.{ℕ, suc, ◌+◌, ◌-◌, ◌*◌, Bool, true, false, ◌&&◌, ◌||◌, List, [], ◌∷◌, ◌++◌, eqb, ltb, leb}
use Rattle.std.proofs.Math.Option.{Option, none, some}
use Rattle.rules.specs.Expression.{plus, minus, times, over, rest, equal, at_most, less}
use Rattle.grammar.specs.Rule.{Rule}
use Rattle.grammar.specs.Token.{Token, number, variable, sign, relation, truth, mark}
use Rattle.grammar.specs.Token.{skip, if, then, else, end, while, does, choose, not, and}
use Rattle.grammar.specs.Token.{semicolon, becomes, comma, round, round_end, square, square_end}
use Rattle.grammar.specs.Spelling.{spell, greatest, last_variable, is_digit, in_word, is_word, is_blank}
use Rattle.grammar.specs.machine.Reader.{State, step, ends, next, start}

-- the tokens that are not numbers or variables
unfoldable pub fixed : List Token
fixed =
    mark skip ∷ mark if ∷ mark then ∷ mark else ∷ mark end ∷ mark while ∷ mark does ∷ mark choose ∷ mark not ∷ mark and
    ∷ mark semicolon ∷ mark becomes ∷ mark comma ∷ mark round ∷ mark round_end ∷ mark square ∷ mark square_end
    ∷ sign plus ∷ sign minus ∷ sign times ∷ sign over ∷ sign rest
    ∷ relation equal ∷ relation at_most ∷ relation less ∷ truth true ∷ truth false ∷ []

-- nothing; the first bytes of a fixed token; a number so far; the letter v, and then the number so far
pub data Pending : Type 0 where
  nothing : Pending
  letters : List ℕ → Pending
  digits : ℕ → Pending
  letter_v : Pending
  index : ℕ → Pending

pub data Spot (limit : ℕ) : Type 0 where
  spot : State limit → Pending → Spot limit

unfoldable pub begins : List ℕ → List ℕ → Bool
begins [] q = true
begins (a ∷ p) [] = false
begins (a ∷ p) (b ∷ q) = eqb a b && begins p q

unfoldable pub any : (Token → Bool) → List Token → Bool
any test [] = false
any test (t ∷ ts) = test t || any test ts

unfoldable pub find : (Token → Bool) → List Token → Option Token
find test [] = none
find test (t ∷ ts) = elim (test t) [ true ↦ some t | false ↦ find test ts ]

unfoldable pub pick : Bool → Pending → Option Pending
pick true P = some P
pick false P = none

-- the digit b after n, "without leading zeros", up to the greatest
unfoldable pub longer : ℕ → ℕ → ℕ → Bool
longer most n b = is_digit b && ltb 0 n && leb (10 * n + (b - 48)) most

module _ {limit : ℕ} where
  unfoldable pub taking : Option (State limit) → Bool
  taking none = false
  taking (some S) = true

  abbrev pub allows : State limit → Token → Bool
  allows S t = taking (step S t)

  -- some fixed token that is allowed now begins so
  unfoldable pub some_begins : State limit → List ℕ → Bool
  some_begins S p = any (λ t. begins p (spell t) && allows S t) fixed

  unfoldable pub begin : State limit → ℕ → Option Pending
  begin S b =
      elim (is_digit b) [
        | true ↦ pick (allows S (number 0)) (digits (b - 48))
        | false ↦ elim (eqb b 118) [ true ↦ pick (allows S (variable 0)) letter_v | false ↦ pick (some_begins S (b ∷ [])) (letters (b ∷ [])) ]
      ]

  unfoldable pub grow : State limit → Pending → ℕ → Option Pending
  grow S nothing b = begin S b
  grow S (letters p) b = pick (some_begins S (p ++ (b ∷ []))) (letters (p ++ (b ∷ [])))
  grow S (digits n) b = pick (longer greatest n b) (digits (10 * n + (b - 48)))
  grow S letter_v b = pick (is_digit b) (index (b - 48))
  grow S (index n) b = pick (longer last_variable n b) (index (10 * n + (b - 48)))

  unfoldable pub shut_token : State limit → Bool → Option Token → Option (State limit)
  shut_token S goes none = none
  shut_token S goes (some t) = elim (is_word t && goes) [ true ↦ none | false ↦ step S t ]

  -- the state once the pending token is closed; `goes`: a letter or digit is next
  unfoldable pub shut : State limit → Bool → Pending → Option (State limit)
  shut S goes nothing = some S
  shut S goes (letters p) = shut_token S goes (find (λ t. begins p (spell t) && begins (spell t) p) fixed)
  shut S goes (digits n) = shut_token S goes (some (number n))
  shut S goes letter_v = none
  shut S goes (index n) = shut_token S goes (some (variable n))

  unfoldable pub go_on : State limit → Option Pending → Option (Spot limit) → Option (Spot limit)
  go_on S (some P) other = some (spot S P)
  go_on S none other = other

  unfoldable pub fresh : ℕ → State limit → Option (Spot limit)
  fresh b S = go_on S (begin S b) (elim (is_blank b) [ true ↦ some (spot S nothing) | false ↦ none ])

  unfoldable pub byte_step : Spot limit → ℕ → Option (Spot limit)
  byte_step (spot S P) b = go_on S (grow S P b) (next (shut S (in_word b) P) (fresh b))

  unfoldable pub byte_end : Spot limit → Option Rule
  byte_end (spot S P) = next (shut S false P) ends

  -- ---- the run, and how many bytes it takes

  unfoldable pub next_spot : {A : Type 0} → Option (Spot limit) → (Spot limit → Option A) → Option A
  next_spot none f = none
  next_spot (some S) f = f S

  unfoldable pub reach_bytes : Spot limit → List ℕ → Option (Spot limit)
  reach_bytes B [] = some B
  reach_bytes B (b ∷ bs) = next_spot (byte_step B b) (λ B'. reach_bytes B' bs)

  unfoldable pub read_from : Spot limit → List ℕ → Option Rule
  read_from B bs = next_spot (reach_bytes B bs) byte_end

  unfoldable pub or_stuck : Option (Spot limit) → (Spot limit → ℕ) → ℕ
  or_stuck none f = 0
  or_stuck (some B) f = f B

  unfoldable pub taken : Spot limit → List ℕ → ℕ
  taken B [] = 0
  taken B (b ∷ bs) = or_stuck (byte_step B b) (λ B'. suc (taken B' bs))

-- what a text reads as, and how many of its bytes are taken
unfoldable pub read_text : List ℕ → Option Rule
read_text bs = read_from (spot start nothing) bs

unfoldable pub taken_of : List ℕ → ℕ
taken_of bs = taken (spot start nothing) bs
