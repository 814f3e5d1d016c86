-- What may follow a phrase, and which tokens are allowed alike: all numbers, all variables; and after < never =.
use mathlib.Core.Path.{◌≡◌, refl, sym, ◌∙◌}
use mathlib.Core.Bool.{Bool, true, false}
use mathlib.Core.Option.{Option, none, some}
use Prim.Native.Nat.{ℕ, zero, suc}
use native.Mathlib.Omega.{arith}
use Rattle.rules.specs.Expression.{Arith, Operator, Relation}
use Rattle.grammar.specs.Token.{Token, number, variable, sign, relation, truth, mark, Mark}
use Rattle.grammar.specs.machine.Reader.{Phrase, Value, State, Open, whole, follow, then_branch, else_branch}
use Rattle.grammar.specs.machine.Reader.{loop_body, in_row, if_test, while_test, squared, choose_test}
use Rattle.grammar.specs.machine.Reader.{first_part, next_part, plain, negated, assigning, left_side}
use Rattle.grammar.specs.machine.Reader.{right_side, bracketed, choose_first, choose_second, first_term}
use Rattle.grammar.specs.machine.Reader.{next_term, first_factor, next_factor, want_statement, want_becomes}
use Rattle.grammar.specs.machine.Reader.{want_part, want_test, want_factor, want_open, have, want_sum, ◌or◌, on}
use Rattle.grammar.specs.machine.Reader.{on_number, on_variable, on_sum, on_product, on_relation, on_truth, after}
use Rattle.grammar.specs.machine.Reader.{nests_statement, nests_test, nests_factor, begins_statement, begins_factor}
use Rattle.grammar.specs.machine.Reader.{begins_test, begins_part, step}
use Rattle.grammar.proofs.tokens.Choices.{nothing, or_cases, on_some, relation_some, sum_some, product_some}
use mathlib.Core.Logic.{⊎_elim}
use Rattle.grammar.specs.Spelling.{spell, mark_spelled, sign_spelled, relation_spelled, truth_spelled, is_digit}
use Rattle.grammar.specs.machine.Bytes.{taking, allows, pick, any, fixed, begins, some_begins, begin}

unfoldable pub operand : Token → Bool
operand (number k) = true
operand (variable x) = true
operand (sign o) = false
operand (relation o) = false
operand (truth v) = false
operand (mark m) = false

module _ {limit : ℕ} where
  -- t leads from a phrase at hand to R
  pub record Follows (t : Token) (R : State limit) : Type 0 where
    pub no_operand : operand t ≡ false
    pub related : (o : Relation) → t ≡ relation o → (n : ℕ) × (K : Open limit Phrase.factor n) × (R ≡ want_factor n K)

  by_mark : (m : Mark) (S : State limit) {R : State limit} (t : Token) → on m S t ≡ some R → Follows t R
  unfolding operand
  by_mark m S t e =
      let q = (on_some m t e).0 in
      record { no_operand = rw q; related = λ o h. let z : mark m ≡ relation o = sym q ∙ h in let z₂ : ◌≡◌ {A = ℕ} 0 1 = cc in absurd (omega arith) }

  by_sum : (f : Operator → State limit) {R : State limit} (t : Token) → on_sum f t ≡ some R → Follows t R
  unfolding operand
  by_sum f t e =
      let k = sum_some f t e in
      let q = k.1 in
      record { no_operand = rw q; related = λ o h. let z : sign k.0 ≡ relation o = sym q ∙ h in let z₂ : ◌≡◌ {A = ℕ} 0 1 = cc in absurd (omega arith) }

  by_product : (f : Operator → State limit) {R : State limit} (t : Token) → on_product f t ≡ some R → Follows t R
  unfolding operand
  by_product f t e =
      let k = product_some f t e in
      let q = k.1 in
      record { no_operand = rw q; related = λ o h. let z : sign k.0 ≡ relation o = sym q ∙ h in let z₂ : ◌≡◌ {A = ℕ} 0 1 = cc in absurd (omega arith) }

  by_relation : {n : ℕ} (a : Arith) (K : Open limit Phrase.test n) {R : State limit} (t : Token)
      → on_relation (λ p. want_sum n (right_side p a K)) t ≡ some R → Follows t R
  unfolding operand
  by_relation {n} a K t e =
      let k = relation_some _ t e in
      let q = k.1 in
      record { no_operand = rw q; related = λ o h. (n, first_factor (first_term (right_side k.0 a K)), sym k.2) }

  cases : (x y : Option (State limit)) {R : State limit} {t : Token}
      → (x or y) ≡ some R → (x ≡ some R → Follows t R) → (y ≡ some R → Follows t R) → Follows t R
  cases x y e f g = ⊎_elim f g (or_cases x y e)

  pub follows : {h : Phrase} {n : ℕ} (K : Open limit h n) (v : Value h) (t : Token) {R : State limit}
      → after K v t ≡ some R → Follows t R
  unfolding after
  follows whole v t e = absurd (nothing e)
  follows (follow s K) v t e = follows K _ t e
  follows (then_branch b K) v t e = by_mark _ _ t e
  follows (else_branch b p K) v t e = by_mark _ _ t e
  follows (loop_body b K) v t e = by_mark _ _ t e
  follows (in_row K) v t e = cases _ _ e (λ f. by_mark _ _ t f) (λ f. follows K v t f)
  follows (if_test K) v t e = cases _ _ e (λ f. by_mark _ _ t f) (λ f. by_mark _ _ t f)
  follows (while_test K) v t e = cases _ _ e (λ f. by_mark _ _ t f) (λ f. by_mark _ _ t f)
  follows (squared K) v t e = cases _ _ e (λ f. by_mark _ _ t f) (λ f. by_mark _ _ t f)
  follows (choose_test K) v t e = cases _ _ e (λ f. by_mark _ _ t f) (λ f. by_mark _ _ t f)
  follows (first_part K) v t e = follows K v t e
  follows (next_part b K) v t e = follows K _ t e
  follows (plain K) v t e = follows K v t e
  follows (negated K) v t e = follows K _ t e
  follows (assigning x K) v t e = cases _ _ e (λ f. by_sum _ t f) (λ f. follows K _ t f)
  follows (left_side K) v t e = cases _ _ e (λ f. by_sum _ t f) (λ f. by_relation v K t f)
  follows (right_side c a K) v t e = cases _ _ e (λ f. by_sum _ t f) (λ f. follows K _ t f)
  follows (bracketed K) v t e = cases _ _ e (λ f. by_sum _ t f) (λ f. by_mark _ _ t f)
  follows (choose_first b K) v t e = cases _ _ e (λ f. by_sum _ t f) (λ f. by_mark _ _ t f)
  follows (choose_second b x K) v t e = cases _ _ e (λ f. by_sum _ t f) (λ f. by_mark _ _ t f)
  follows (first_term K) v t e = cases _ _ e (λ f. by_product _ t f) (λ f. follows K v t f)
  follows (next_term o a K) v t e = cases _ _ e (λ f. by_product _ t f) (λ f. follows K _ t f)
  follows (first_factor K) v t e = follows K v t e
  follows (next_factor o a K) v t e = follows K _ t e

  -- ---- numbers are allowed together, and so are variables

  not_taking : (o : Option (State limit)) → ((R : State limit) → o ≡ some R → ⊥) → taking o ≡ false
  unfolding taking
  not_taking none never = refl
  not_taking (some R) never = absurd (never R refl)

  have_no_operand : {h : Phrase} {n : ℕ} (K : Open limit h n) (v : Value h) (t : Token)
      → operand t ≡ true → taking (after K v t) ≡ false
  have_no_operand K v t h = not_taking (after K v t) (λ R e. let f = follows K v t e in let z : ◌≡◌ {A = ℕ} 0 1 = cc in omega arith)

  pub number_allowed : (S : State limit) (a b : ℕ) → allows S (number a) ≡ allows S (number b)
  unfolding step begins_statement begins_part begins_test begins_factor nests_statement nests_test nests_factor
      on on_number on_variable on_truth ◌or◌ taking operand
  number_allowed (want_statement zero K) a b = refl
  number_allowed (want_statement (suc n) K) a b = refl
  number_allowed (want_becomes n x K) a b = refl
  number_allowed (want_part zero K) a b = refl
  number_allowed (want_part (suc n) K) a b = refl
  number_allowed (want_test zero K) a b = refl
  number_allowed (want_test (suc n) K) a b = refl
  number_allowed (want_factor n K) a b = refl
  number_allowed (want_open n K) a b = refl
  number_allowed (have h n K v) a b = have_no_operand K v (number a) refl ∙ sym (have_no_operand K v (number b) refl)

  pub variable_allowed : (S : State limit) (a b : ℕ) → allows S (variable a) ≡ allows S (variable b)
  unfolding step begins_statement begins_part begins_test begins_factor nests_statement nests_test nests_factor
      on on_number on_variable on_truth ◌or◌ taking operand
  variable_allowed (want_statement n K) a b = refl
  variable_allowed (want_becomes n x K) a b = refl
  variable_allowed (want_part zero K) a b = refl
  variable_allowed (want_part (suc n) K) a b = refl
  variable_allowed (want_test zero K) a b = refl
  variable_allowed (want_test (suc n) K) a b = refl
  variable_allowed (want_factor n K) a b = refl
  variable_allowed (want_open n K) a b = refl
  variable_allowed (have h n K v) a b = have_no_operand K v (variable a) refl ∙ sym (have_no_operand K v (variable b) refl)

  pub taking_some : (o : Option (State limit)) → taking o ≡ true → (R : State limit) × (o ≡ some R)
  unfolding taking
  taking_some none e = let z : ◌≡◌ {A = ℕ} 0 1 = cc in absurd (omega arith)
  taking_some (some R) e = (R, refl)

  pub some_taking : (o : Option (State limit)) {R : State limit} → o ≡ some R → taking o ≡ true
  unfolding taking
  some_taking o e = rw e

  -- ---- after < no = can follow

  relation_wants : (S : State limit) (o : Relation) {R : State limit} → step S (relation o) ≡ some R
      → (n : ℕ) × (K : Open limit Phrase.factor n) × (R ≡ want_factor n K)
  unfolding step begins_statement begins_part begins_test begins_factor nests_statement nests_test nests_factor on on_number on_variable on_truth ◌or◌
  relation_wants (want_statement zero K) o e = absurd (nothing e)
  relation_wants (want_statement (suc n) K) o e = absurd (nothing e)
  relation_wants (want_becomes n x K) o e = absurd (nothing e)
  relation_wants (want_part zero K) o e = absurd (nothing e)
  relation_wants (want_part (suc n) K) o e = absurd (nothing e)
  relation_wants (want_test zero K) o e = absurd (nothing e)
  relation_wants (want_test (suc n) K) o e = absurd (nothing e)
  relation_wants (want_factor zero K) o e = absurd (nothing e)
  relation_wants (want_factor (suc n) K) o e = absurd (nothing e)
  relation_wants (want_open n K) o e = absurd (nothing e)
  relation_wants (have h n K v) o e = (follows K v (relation o) e).related o refl

  factor_no_equal : (n : ℕ) (K : Open limit Phrase.factor n) → begin (want_factor n K) 61 ≡ none
  unfolding begin is_digit pick some_begins any fixed begins spell mark_spelled sign_spelled relation_spelled truth_spelled taking
      step begins_factor nests_factor on on_number on_variable ◌or◌
  factor_no_equal zero K = refl
  factor_no_equal (suc n) K = refl

  pub no_equal : (S : State limit) (o : Relation) {R : State limit} → step S (relation o) ≡ some R → begin R 61 ≡ none
  no_equal S o e = let k = relation_wants S o e in let q = k.2 in rw q (factor_no_equal k.0 k.1)
