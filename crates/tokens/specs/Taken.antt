-- The token at a place of the text: its kind, its number, where it ends and the move that it makes; or the place where the text is stuck.
use Rattle.std.specs.Prelude.{◌≡◌, ℕ, ◌<◌, ◌≤◌, false, List, eqb, length, get_or}
use Rattle.grammar.specs.Token.{Token}
use Rattle.grammar.specs.Spelling.{is_blank}
use Rattle.tokens.specs.declared.moves.Standing.{Standing}
use Rattle.tokens.specs.Flat.{figure_number}
use Rattle.tokens.specs.Stand.{kind_of, figure}
use Rattle.tokens.specs.Arrays.{standing, Located}
use Rattle.tokens.specs.declared.Found.{Found}
use Rattle.tokens.specs.Scan.{carried, TokenAt}
use Rattle.tokens.specs.Quick.{class_of}

-- the number of a token of this kind that carries this value
pub record NumberIs (kind value r : ℕ) : Type 0 where
  pub is : (t : Token) → kind_of t ≡ kind → carried t ≡ value → figure_number (figure t) ≡ r

pub record AtClass (text : List ℕ) (at class : ℕ) (s : Standing) : Type 0 where
  pub fits : s.top ≤ 1600
  pub inside : at < length text
  pub no_blank : is_blank (get_or text at 0) ≡ false
  pub is : class ≡ class_of (get_or text at 0)

-- a token that may follow
pub record Taken (text : List ℕ) (at : ℕ) (st : List ℕ) (s : Standing) (r : Found) : Type 0 where
  pub token : (t : Token) × (kind_of t ≡ r.kind) × (figure_number (figure t) ≡ r.number)
      × TokenAt text at (standing st s) t r.end × Located st s r.kind r.place.act r.place.top × (eqb r.place.act 0 ≡ false)
