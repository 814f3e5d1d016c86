-- The machine that reads tokens one by one. What is open is a phrase with a hole in it: `Open limit h n` waits for a phrase of kind h,
-- with n levels of nesting still allowed. There is one frame for each place of each rule of the grammar.
use Rattle.std.specs.Prelude.{ℕ, zero, suc, List, [], ◌∷◌, pos}
use mathlib.Core.Bool.{Bool, true, false}
use mathlib.Core.Bool
use Rattle.std.proofs.Math.Option.{Option, none, some}
use Rattle.rules.specs.Expression.{Arith, Boole, Operator, Relation}
use Rattle.grammar.specs.Token.{Token, number, variable, sign, relation, truth, mark, Mark, same}
use Rattle.grammar.specs.Token.{skip, if, then, else, end, while, does, choose, not, and}
use Rattle.grammar.specs.Token.{semicolon, becomes, comma, round, round_end, square, square_end}
use Rattle.grammar.specs.Rule.{Rule}
use Rattle.grammar.specs.Grammar.{additive, nesting}

pub data Phrase : Type 0 where
  row statement ands part test sum term factor : Phrase

abbrev pub Value : Phrase → Type 0
Value row = Rule
Value statement = Rule
Value ands = Boole
Value part = Boole
Value test = Boole
Value sum = Arith
Value term = Arith
Value factor = Arith

pub data Open (limit : ℕ) : Phrase → ℕ → Type 0 where
  whole : Open limit row limit
  follow : {n : ℕ} → Rule → Open limit row n → Open limit row n
  then_branch : {n : ℕ} → Boole → Open limit statement (suc n) → Open limit row n
  else_branch : {n : ℕ} → Boole → Rule → Open limit statement (suc n) → Open limit row n
  loop_body : {n : ℕ} → Boole → Open limit statement (suc n) → Open limit row n
  in_row : {n : ℕ} → Open limit row n → Open limit statement n
  if_test : {n : ℕ} → Open limit statement (suc n) → Open limit ands n
  while_test : {n : ℕ} → Open limit statement (suc n) → Open limit ands n
  squared : {n : ℕ} → Open limit test (suc n) → Open limit ands n
  choose_test : {n : ℕ} → Open limit factor (suc n) → Open limit ands n
  first_part : {n : ℕ} → Open limit ands n → Open limit part n
  next_part : {n : ℕ} → Boole → Open limit ands n → Open limit part n
  plain : {n : ℕ} → Open limit part n → Open limit test n
  negated : {n : ℕ} → Open limit part n → Open limit test n
  assigning : {n : ℕ} → ℕ → Open limit statement n → Open limit sum n
  left_side : {n : ℕ} → Open limit test n → Open limit sum n
  right_side : {n : ℕ} → Relation → Arith → Open limit test n → Open limit sum n
  bracketed : {n : ℕ} → Open limit factor (suc n) → Open limit sum n
  choose_first : {n : ℕ} → Boole → Open limit factor (suc n) → Open limit sum n
  choose_second : {n : ℕ} → Boole → Arith → Open limit factor (suc n) → Open limit sum n
  first_term : {n : ℕ} → Open limit sum n → Open limit term n
  next_term : {n : ℕ} → Operator → Arith → Open limit sum n → Open limit term n
  first_factor : {n : ℕ} → Open limit term n → Open limit factor n
  next_factor : {n : ℕ} → Operator → Arith → Open limit term n → Open limit factor n

-- a phrase is wanted, a fixed sign is wanted, or a phrase is at hand, which may still grow
pub data State (limit : ℕ) : Type 0 where
  want_statement : (n : ℕ) → Open limit statement n → State limit
  want_becomes : (n x : ℕ) → Open limit statement n → State limit
  want_part : (n : ℕ) → Open limit part n → State limit
  want_test : (n : ℕ) → Open limit test n → State limit
  want_factor : (n : ℕ) → Open limit factor n → State limit
  want_open : (n : ℕ) → Open limit factor (suc n) → State limit
  have : (h : Phrase) (n : ℕ) → Open limit h n → Value h → State limit

module _ {limit : ℕ} where
  abbrev pub want_row : (n : ℕ) → Open limit row n → State limit
  want_row n K = want_statement n (in_row K)

  abbrev pub want_ands : (n : ℕ) → Open limit ands n → State limit
  want_ands n K = want_part n (first_part K)

  abbrev pub want_term : (n : ℕ) → Open limit term n → State limit
  want_term n K = want_factor n (first_factor K)

  abbrev pub want_sum : (n : ℕ) → Open limit sum n → State limit
  want_sum n K = want_term n (first_term K)

  -- ---- what a token does

  infixr 3 ◌or◌
  unfoldable pub ◌or◌ : Option (State limit) → Option (State limit) → Option (State limit)
  ◌or◌ (some S) next = some S
  ◌or◌ none next = next

  unfoldable pub given : Bool → State limit → Option (State limit)
  given true S = some S
  given false S = none

  -- the mark m leads to S; a number, and so on, to what f makes of it
  unfoldable pub on : Mark → State limit → Token → Option (State limit)
  on m S t = elim t [ number k ↦ none | variable x ↦ none | sign o ↦ none | relation o ↦ none | truth v ↦ none | mark k ↦ given (same m k) S ]

  unfoldable pub on_number : (ℕ → State limit) → Token → Option (State limit)
  on_number f t = elim t [ number k ↦ some (f k) | variable x ↦ none | sign o ↦ none | relation o ↦ none | truth v ↦ none | mark k ↦ none ]

  unfoldable pub on_variable : (ℕ → State limit) → Token → Option (State limit)
  on_variable f t = elim t [ number k ↦ none | variable x ↦ some (f x) | sign o ↦ none | relation o ↦ none | truth v ↦ none | mark k ↦ none ]

  unfoldable pub on_sum : (Operator → State limit) → Token → Option (State limit)
  on_sum f t = elim t [ number k ↦ none | variable x ↦ none | sign o ↦ given (additive o) (f o) | relation o ↦ none | truth v ↦ none | mark k ↦ none ]

  unfoldable pub on_product : (Operator → State limit) → Token → Option (State limit)
  on_product f t =
      elim t [
        | number k ↦ none
        | variable x ↦ none
        | sign o ↦ given (mathlib.Core.Bool.not (additive o)) (f o)
        | relation o ↦ none
        | truth v ↦ none
        | mark k ↦ none
      ]

  unfoldable pub on_relation : (Relation → State limit) → Token → Option (State limit)
  on_relation f t = elim t [ number k ↦ none | variable x ↦ none | sign o ↦ none | relation o ↦ some (f o) | truth v ↦ none | mark k ↦ none ]

  unfoldable pub on_truth : (Bool → State limit) → Token → Option (State limit)
  on_truth f t = elim t [ number k ↦ none | variable x ↦ none | sign o ↦ none | relation o ↦ none | truth v ↦ some (f v) | mark k ↦ none ]

  -- ---- a phrase at hand: it grows, or it is complete and what waits for it goes on

  unfoldable pub after : {h : Phrase} {n : ℕ} → Open limit h n → Value h → Token → Option (State limit)
  after whole p t = none
  after (follow s K) p t = after K (Rule.seq s p) t
  after (then_branch {n} b K) p t = on else (want_row n (else_branch b p K)) t
  after (else_branch {n} b p K) q t = on end (have statement (suc n) K (Rule.if b p q)) t
  after (loop_body {n} b K) p t = on end (have statement (suc n) K (Rule.while b p)) t
  after (in_row {n} K) s t = on semicolon (want_row n (follow s K)) t or after K s t
  after (if_test {n} K) b t = on and (want_part n (next_part b (if_test K))) t or on then (want_row n (then_branch b K)) t
  after (while_test {n} K) b t = on and (want_part n (next_part b (while_test K))) t or on does (want_row n (loop_body b K)) t
  after (squared {n} K) b t = on and (want_part n (next_part b (squared K))) t or on square_end (have test (suc n) K b) t
  after (choose_test {n} K) b t = on and (want_part n (next_part b (choose_test K))) t or on comma (want_sum n (choose_first b K)) t
  after (first_part K) b t = after K b t
  after (next_part b K) c t = after K (Boole.both b c) t
  after (plain K) b t = after K b t
  after (negated K) b t = after K (Boole.negation b) t
  after (assigning {n} x K) a t = on_sum (λ o. want_term n (next_term o a (assigning x K))) t or after K (Rule.assign x a) t
  after (left_side {n} K) a t = on_sum (λ o. want_term n (next_term o a (left_side K))) t or on_relation (λ o. want_sum n (right_side o a K)) t
  after (right_side {n} c a K) b t = on_sum (λ o. want_term n (next_term o b (right_side c a K))) t or after K (Boole.compare c a b) t
  after (bracketed {n} K) a t = on_sum (λ o. want_term n (next_term o a (bracketed K))) t or on round_end (have factor (suc n) K a) t
  after (choose_first {n} b K) a t = on_sum (λ o. want_term n (next_term o a (choose_first b K))) t or on comma (want_sum n (choose_second b a K)) t
  after (choose_second {n} b x K) y t =
      on_sum (λ o. want_term n (next_term o y (choose_second b x K))) t or on round_end (have factor (suc n) K (Arith.choose b x y)) t
  after (first_term {n} K) a t = on_product (λ o. want_factor n (next_factor o a (first_term K))) t or after K a t
  after (next_term {n} p a K) b t = on_product (λ o. want_factor n (next_factor o b (next_term p a K))) t or after K (Arith.binary p a b) t
  after (first_factor K) a t = after K a t
  after (next_factor o a K) b t = after K (Arith.binary o a b) t

  -- ---- a phrase is wanted: the tokens that begin it; one that nests only where a level is left

  unfoldable pub nests_statement : (n : ℕ) → Open limit statement n → Token → Option (State limit)
  nests_statement zero K t = none
  nests_statement (suc n) K t = on if (want_ands n (if_test K)) t or on while (want_ands n (while_test K)) t

  unfoldable pub nests_test : (n : ℕ) → Open limit test n → Token → Option (State limit)
  nests_test zero K t = none
  nests_test (suc n) K t = on square (want_ands n (squared K)) t

  unfoldable pub nests_factor : (n : ℕ) → Open limit factor n → Token → Option (State limit)
  nests_factor zero K t = none
  nests_factor (suc n) K t = on round (want_sum n (bracketed K)) t or on choose (want_open n K) t

  unfoldable pub begins_statement : (n : ℕ) → Open limit statement n → Token → Option (State limit)
  begins_statement n K t = on skip (have statement n K Rule.skip) t or on_variable (λ x. want_becomes n x K) t or nests_statement n K t

  unfoldable pub begins_factor : (n : ℕ) → Open limit factor n → Token → Option (State limit)
  begins_factor n K t =
      on_number (λ k. have factor n K (Arith.number (pos k))) t or on_variable (λ x. have factor n K (Arith.variable x)) t or nests_factor n K t

  unfoldable pub begins_test : (n : ℕ) → Open limit test n → Token → Option (State limit)
  begins_test n K t =
      on_truth (λ v. have test n K (Boole.truth v)) t or nests_test n K t or begins_factor n (first_factor (first_term (left_side K))) t

  unfoldable pub begins_part : (n : ℕ) → Open limit part n → Token → Option (State limit)
  begins_part n K t = on not (want_test n (negated K)) t or begins_test n (plain K) t

  unfoldable pub step : State limit → Token → Option (State limit)
  step (want_statement n K) t = begins_statement n K t
  step (want_becomes n x K) t = on becomes (want_sum n (assigning x K)) t
  step (want_part n K) t = begins_part n K t
  step (want_test n K) t = begins_test n K t
  step (want_factor n K) t = begins_factor n K t
  step (want_open n K) t = on round (want_ands n (choose_test K)) t
  step (have h n K v) t = after K v t

  -- ---- the end of the tokens: the rule, if nothing is left open

  unfoldable pub whole_rule : {h : Phrase} {n : ℕ} → Open limit h n → Value h → Option Rule
  whole_rule whole p = some p
  whole_rule (follow s K) p = whole_rule K (Rule.seq s p)
  whole_rule (then_branch b K) p = none
  whole_rule (else_branch b p K) q = none
  whole_rule (loop_body b K) p = none
  whole_rule (in_row K) s = whole_rule K s
  whole_rule (if_test K) b = none
  whole_rule (while_test K) b = none
  whole_rule (squared K) b = none
  whole_rule (choose_test K) b = none
  whole_rule (first_part K) b = none
  whole_rule (next_part b K) c = none
  whole_rule (plain K) b = none
  whole_rule (negated K) b = none
  whole_rule (assigning x K) a = whole_rule K (Rule.assign x a)
  whole_rule (left_side K) a = none
  whole_rule (right_side c a K) b = none
  whole_rule (bracketed K) a = none
  whole_rule (choose_first b K) a = none
  whole_rule (choose_second b x K) y = none
  whole_rule (first_term K) a = whole_rule K a
  whole_rule (next_term o a K) b = whole_rule K (Arith.binary o a b)
  whole_rule (first_factor K) a = whole_rule K a
  whole_rule (next_factor o a K) b = whole_rule K (Arith.binary o a b)

  unfoldable pub ends : State limit → Option Rule
  ends (want_statement n K) = none
  ends (want_becomes n x K) = none
  ends (want_part n K) = none
  ends (want_test n K) = none
  ends (want_factor n K) = none
  ends (want_open n K) = none
  ends (have h n K v) = whole_rule K v

  -- ---- the run

  unfoldable pub next : {A : Type 0} → Option (State limit) → (State limit → Option A) → Option A
  next none f = none
  next (some S) f = f S

  -- the state after some tokens, if all are taken
  unfoldable pub reach : State limit → List Token → Option (State limit)
  reach S [] = some S
  reach S (t ∷ ts) = next (step S t) (λ S'. reach S' ts)

  unfoldable pub run : State limit → List Token → Option Rule
  run S ts = next (reach S ts) ends

abbrev pub start : State nesting
start = want_row nesting whole
