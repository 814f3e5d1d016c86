-- Laws of the choices that a step is made of: which token led on, and where to.
use mathlib.Core.Path.{◌≡◌, refl, sym, ap, ◌∙◌}
use mathlib.Core.Bool.{Bool, true, false}
use mathlib.Core.List.{List, [], ◌∷◌}
use mathlib.Core.Option.{Option, none, some}
use mathlib.Core.Logic.{◌⊎◌, inl, inr}
use Prim.Native.Nat.{ℕ}
use native.Mathlib.Omega.{arith}
use borrow.Author.Tests.{eqb-true}
use lib.ListN.{get_or}
use Rattle.rules.specs.Expression.{Operator, Relation}
use Rattle.grammar.specs.Token.{Token, number, variable, sign, relation, truth, mark, Mark, rank, same}
use Rattle.grammar.specs.Token.{skip, if, then, else, end, while, does, choose, not, and}
use Rattle.grammar.specs.Token.{semicolon, becomes, comma, round, round_end, square, square_end}
use Rattle.grammar.specs.Grammar.{additive}
use Rattle.grammar.specs.machine.Reader.{State, ◌or◌, given, on, on_number, on_variable, on_sum, on_product}
use Rattle.grammar.specs.machine.Reader.{on_relation, on_truth}

marks : List Mark
marks =
    skip ∷ if ∷ then ∷ else ∷ end ∷ while ∷ does ∷ choose ∷ not ∷ and
    ∷ semicolon ∷ becomes ∷ comma ∷ round ∷ round_end ∷ square ∷ square_end ∷ []

at_rank : (m : Mark) → get_or marks (rank m) skip ≡ m
unfolding marks rank
at_rank skip = refl
at_rank if = refl
at_rank then = refl
at_rank else = refl
at_rank end = refl
at_rank while = refl
at_rank does = refl
at_rank choose = refl
at_rank not = refl
at_rank and = refl
at_rank semicolon = refl
at_rank becomes = refl
at_rank comma = refl
at_rank round = refl
at_rank round_end = refl
at_rank square = refl
at_rank square_end = refl

same_mark : (a b : Mark) → same a b ≡ true → a ≡ b
unfolding same
same_mark a b e =
    let r : rank a ≡ rank b = eqb-true _ _ e in
    sym (at_rank a) ∙ ap (λ (k : ℕ). get_or marks k skip) r ∙ at_rank b

pub nothing : {A : Type 0} {x : A} → none ≡ some x → ⊥
nothing e = let z : ◌≡◌ {A = ℕ} 0 1 = cc in omega arith

module _ {limit : ℕ} where
  pub or_cases : (x y : Option (State limit)) {S : State limit} → (x or y) ≡ some S → (x ≡ some S) ⊎ (y ≡ some S)
  unfolding ◌or◌
  or_cases none y e = inr e
  or_cases (some R) y e = inl e

  pub or_second : (x : Option (State limit)) {y : Option (State limit)} {S : State limit}
      → ((R : State limit) → x ≡ some R → ⊥)
      → y ≡ some S → (x or y) ≡ some S
  unfolding ◌or◌
  or_second none never e = e
  or_second (some R) never e = absurd (never R refl)

  given_some : (b : Bool) {S R : State limit} → given b S ≡ some R → (b ≡ true) × (S ≡ R)
  unfolding given
  given_some true e = (refl, cc)
  given_some false e = absurd (nothing e)

  pub on_some : (m : Mark) {S R : State limit} (t : Token) → on m S t ≡ some R → (t ≡ mark m) × (S ≡ R)
  unfolding on
  on_some m (number k) e = absurd (nothing e)
  on_some m (variable x) e = absurd (nothing e)
  on_some m (sign o) e = absurd (nothing e)
  on_some m (relation o) e = absurd (nothing e)
  on_some m (truth v) e = absurd (nothing e)
  on_some m (mark k) e = let g = given_some (same m k) e in (ap mark (sym (same_mark m k g.0)), g.1)

  pub number_some : (f : ℕ → State limit) {R : State limit} (t : Token)
      → on_number f t ≡ some R → (k : ℕ) × (t ≡ number k) × (f k ≡ R)
  unfolding on_number
  number_some f (number k) e = (k, refl, cc)
  number_some f (variable x) e = absurd (nothing e)
  number_some f (sign o) e = absurd (nothing e)
  number_some f (relation o) e = absurd (nothing e)
  number_some f (truth v) e = absurd (nothing e)
  number_some f (mark k) e = absurd (nothing e)

  pub variable_some : (f : ℕ → State limit) {R : State limit} (t : Token)
      → on_variable f t ≡ some R → (x : ℕ) × (t ≡ variable x) × (f x ≡ R)
  unfolding on_variable
  variable_some f (number k) e = absurd (nothing e)
  variable_some f (variable x) e = (x, refl, cc)
  variable_some f (sign o) e = absurd (nothing e)
  variable_some f (relation o) e = absurd (nothing e)
  variable_some f (truth v) e = absurd (nothing e)
  variable_some f (mark k) e = absurd (nothing e)

  pub relation_some : (f : Relation → State limit) {R : State limit} (t : Token)
      → on_relation f t ≡ some R → (o : Relation) × (t ≡ relation o) × (f o ≡ R)
  unfolding on_relation
  relation_some f (number k) e = absurd (nothing e)
  relation_some f (variable x) e = absurd (nothing e)
  relation_some f (sign o) e = absurd (nothing e)
  relation_some f (relation o) e = (o, refl, cc)
  relation_some f (truth v) e = absurd (nothing e)
  relation_some f (mark k) e = absurd (nothing e)

  pub truth_some : (f : Bool → State limit) {R : State limit} (t : Token)
      → on_truth f t ≡ some R → (v : Bool) × (t ≡ truth v) × (f v ≡ R)
  unfolding on_truth
  truth_some f (number k) e = absurd (nothing e)
  truth_some f (variable x) e = absurd (nothing e)
  truth_some f (sign o) e = absurd (nothing e)
  truth_some f (relation o) e = absurd (nothing e)
  truth_some f (truth v) e = (v, refl, cc)
  truth_some f (mark k) e = absurd (nothing e)

  pub sum_some : (f : Operator → State limit) {R : State limit} (t : Token) → on_sum f t ≡ some R
      → (o : Operator) × (t ≡ sign o) × (additive o ≡ true) × (f o ≡ R)
  unfolding on_sum
  sum_some f (number k) e = absurd (nothing e)
  sum_some f (variable x) e = absurd (nothing e)
  sum_some f (sign o) e = let g = given_some (additive o) e in (o, refl, g.0, g.1)
  sum_some f (relation o) e = absurd (nothing e)
  sum_some f (truth v) e = absurd (nothing e)
  sum_some f (mark k) e = absurd (nothing e)

  given_unless : (b : Bool) {S R : State limit} → given (mathlib.Core.Bool.not b) S ≡ some R → (b ≡ false) × (S ≡ R)
  unfolding given
  given_unless true e = absurd (nothing e)
  given_unless false e = (refl, cc)

  pub product_some : (f : Operator → State limit) {R : State limit} (t : Token) → on_product f t ≡ some R
      → (o : Operator) × (t ≡ sign o) × (additive o ≡ false) × (f o ≡ R)
  unfolding on_product
  product_some f (number k) e = absurd (nothing e)
  product_some f (variable x) e = absurd (nothing e)
  product_some f (sign o) e = let g = given_unless (additive o) e in (o, refl, g.0, g.1)
  product_some f (relation o) e = absurd (nothing e)
  product_some f (truth v) e = absurd (nothing e)
  product_some f (mark k) e = absurd (nothing e)
