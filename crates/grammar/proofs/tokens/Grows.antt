-- A phrase at hand takes what its last part, once complete, would not: no token can both go on with the part and follow it.
use mathlib.Core.Path.{◌≡◌, refl, sym, ◌∙◌}
use mathlib.Core.Bool.{Bool, false}
use mathlib.Core.Option.{Option, none, some}
use Prim.Native.Nat.{ℕ, zero, suc}
use Rattle.rules.specs.Expression.{Arith, Boole, Operator, Relation}
use Rattle.grammar.specs.Rule.{Rule}
use Rattle.grammar.specs.Token.{Token, sign, truth, mark, rank, same, not, semicolon, square}
use Rattle.grammar.specs.Grammar.{additive}
use Rattle.grammar.specs.machine.Reader.{Phrase, State, Open, whole, follow, then_branch, else_branch}
use Rattle.grammar.specs.machine.Reader.{loop_body, in_row, if_test, while_test, squared, choose_test}
use Rattle.grammar.specs.machine.Reader.{first_part, next_part, plain, negated, assigning, left_side}
use Rattle.grammar.specs.machine.Reader.{right_side, bracketed, choose_first, choose_second, first_term}
use Rattle.grammar.specs.machine.Reader.{next_term, first_factor, next_factor, want_part, want_test, have}
use Rattle.grammar.specs.machine.Reader.{want_sum, ◌or◌, given, on, on_number, on_variable, on_sum, on_relation}
use Rattle.grammar.specs.machine.Reader.{on_truth, after, nests_test, nests_factor, begins_factor, begins_test}
use Rattle.grammar.specs.machine.Reader.{begins_part, step, whole_rule, ends}
use Rattle.grammar.proofs.tokens.Choices.{nothing, or_second, on_some, sum_some, product_some, truth_some}
use Rattle.grammar.proofs.tokens.Runs.{Grows}

module _ {limit : ℕ} where
  -- ---- what a complete phrase never takes

  row_no_semicolon : {n : ℕ} (K : Open limit Phrase.row n) (p : Rule) → after K p (mark semicolon) ≡ none
  unfolding after on given same rank
  row_no_semicolon whole p = refl
  row_no_semicolon (follow s K) p = row_no_semicolon K _
  row_no_semicolon (then_branch b K) p = refl
  row_no_semicolon (else_branch b q K) p = refl
  row_no_semicolon (loop_body b K) p = refl

  row_no_sign : {n : ℕ} (K : Open limit Phrase.row n) (p : Rule) (o : Operator) → after K p (sign o) ≡ none
  unfolding after on
  row_no_sign whole p o = refl
  row_no_sign (follow s K) p o = row_no_sign K _ o
  row_no_sign (then_branch b K) p o = refl
  row_no_sign (else_branch b q K) p o = refl
  row_no_sign (loop_body b K) p o = refl

  statement_no_sign : {n : ℕ} (K : Open limit Phrase.statement n) (s : Rule) (o : Operator) → after K s (sign o) ≡ none
  unfolding after on ◌or◌
  statement_no_sign (in_row K) s o = row_no_sign K s o

  ands_no_sign : {n : ℕ} (K : Open limit Phrase.ands n) (b : Boole) (o : Operator) → after K b (sign o) ≡ none
  unfolding after on ◌or◌
  ands_no_sign (if_test K) b o = refl
  ands_no_sign (while_test K) b o = refl
  ands_no_sign (squared K) b o = refl
  ands_no_sign (choose_test K) b o = refl

  part_no_sign : {n : ℕ} (K : Open limit Phrase.part n) (b : Boole) (o : Operator) → after K b (sign o) ≡ none
  unfolding after
  part_no_sign (first_part K) b o = ands_no_sign K b o
  part_no_sign (next_part c K) b o = ands_no_sign K _ o

  test_no_sign : {n : ℕ} (K : Open limit Phrase.test n) (b : Boole) (o : Operator) → after K b (sign o) ≡ none
  unfolding after
  test_no_sign (plain K) b o = part_no_sign K b o
  test_no_sign (negated K) b o = part_no_sign K _ o

  sum_no_product : {n : ℕ} (K : Open limit Phrase.sum n) (a : Arith) (o : Operator)
      → additive o ≡ false → after K a (sign o) ≡ none
  unfolding after on on_sum on_relation ◌or◌ given
  sum_no_product (assigning x K) a o e = rw (e, statement_no_sign K (Rule.assign x a) o)
  sum_no_product (left_side K) a o e = rw e
  sum_no_product (right_side c l K) a o e = rw (e, test_no_sign K (Boole.compare c l a) o)
  sum_no_product (bracketed K) a o e = rw e
  sum_no_product (choose_first b K) a o e = rw e
  sum_no_product (choose_second b x K) a o e = rw e

  -- ---- a phrase at hand takes what its last part, once complete, would not

  same_steps : {S S' : State limit} → ((t : Token) → step S t ≡ step S' t) → ends S ≡ ends S' → Grows S S'
  same_steps f e = record { steps = λ t h. sym (f t) ∙ h; finishes = λ h. sym e ∙ h }

  refuses : {o : Option (State limit)} {R : State limit} → o ≡ none → o ≡ some R → ⊥
  refuses e h = nothing (sym e ∙ h)

  pub row_grows : {n : ℕ} (K : Open limit Phrase.row n) (p : Rule)
      → Grows (have Phrase.row n K p) (have Phrase.statement n (in_row K) p)
  unfolding step after ends whole_rule
  row_grows {n} K p = record {
    steps = λ t h. or_second _ (λ R q. let e = (on_some semicolon t q).0 in refuses (row_no_semicolon K p) (rw e at h)) h;
    finishes = λ h. h;
  }

  pub statement_grows : {n : ℕ} (x : ℕ) (K : Open limit Phrase.statement n) (a : Arith)
      → Grows (have Phrase.statement n K (Rule.assign x a)) (have Phrase.sum n (assigning x K) a)
  unfolding step after ends whole_rule
  statement_grows x K a = record {
    steps = λ t h. or_second _ (λ R q. let s = sum_some _ t q in refuses (statement_no_sign K (Rule.assign x a) s.0) (rw s.1 at h)) h;
    finishes = λ h. h;
  }

  test_ends_nothing : {n : ℕ} (K : Open limit Phrase.test n) (b : Boole) → whole_rule K b ≡ none
  unfolding whole_rule
  test_ends_nothing (plain K) b = refl
  test_ends_nothing (negated K) b = refl

  pub test_grows : {n : ℕ} (c : Relation) (l : Arith) (K : Open limit Phrase.test n) (a : Arith)
      → Grows (have Phrase.test n K (Boole.compare c l a)) (have Phrase.sum n (right_side c l K) a)
  unfolding step after ends whole_rule
  test_grows c l K a = record {
    steps = λ t h. or_second _ (λ R q. let s = sum_some _ t q in refuses (test_no_sign K (Boole.compare c l a) s.0) (rw s.1 at h)) h;
    finishes = λ h. sym (test_ends_nothing K (Boole.compare c l a)) ∙ h;
  }

  pub first_term_grows : {n : ℕ} (K : Open limit Phrase.sum n) (a : Arith)
      → Grows (have Phrase.sum n K a) (have Phrase.term n (first_term K) a)
  unfolding step after ends whole_rule
  first_term_grows K a = record {
    steps = λ t h. or_second _ (λ R q. let s = product_some _ t q in refuses (sum_no_product K a s.0 s.2) (rw s.1 at h)) h;
    finishes = λ h. h;
  }

  pub next_term_grows : {n : ℕ} (o : Operator) (l : Arith) (K : Open limit Phrase.sum n) (a : Arith)
      → Grows (have Phrase.sum n K (Arith.binary o l a)) (have Phrase.term n (next_term o l K) a)
  unfolding step after ends whole_rule
  next_term_grows o l K a = record {
    steps = λ t h. or_second _ (λ R q. let s = product_some _ t q in refuses (sum_no_product K (Arith.binary o l a) s.0 s.2) (rw s.1 at h)) h;
    finishes = λ h. h;
  }

  ands_ends_nothing : {n : ℕ} (K : Open limit Phrase.ands n) (b : Boole) → whole_rule K b ≡ none
  unfolding whole_rule
  ands_ends_nothing (if_test K) b = refl
  ands_ends_nothing (while_test K) b = refl
  ands_ends_nothing (squared K) b = refl
  ands_ends_nothing (choose_test K) b = refl

  part_ends_nothing : {n : ℕ} (K : Open limit Phrase.part n) (b : Boole) → whole_rule K b ≡ none
  unfolding whole_rule
  part_ends_nothing (first_part K) b = refl
  part_ends_nothing (next_part c K) b = refl

  module _ {n : ℕ} where
    pub follow_grows : (s p : Rule) (K : Open limit Phrase.row n)
        → Grows (have Phrase.row n K (Rule.seq s p)) (have Phrase.row n (follow s K) p)
    unfolding step after ends whole_rule
    follow_grows s p K = same_steps (λ t. refl) refl

    pub first_part_grows : (K : Open limit Phrase.ands n) (b : Boole)
        → Grows (have Phrase.ands n K b) (have Phrase.part n (first_part K) b)
    unfolding step after ends whole_rule
    first_part_grows K b = same_steps (λ t. refl) (ands_ends_nothing K b)

    pub next_part_grows : (c : Boole) (K : Open limit Phrase.ands n) (b : Boole)
        → Grows (have Phrase.ands n K (Boole.both c b)) (have Phrase.part n (next_part c K) b)
    unfolding step after ends whole_rule
    next_part_grows c K b = same_steps (λ t. refl) (ands_ends_nothing K (Boole.both c b))

    pub plain_grows : (K : Open limit Phrase.part n) (b : Boole)
        → Grows (have Phrase.part n K b) (have Phrase.test n (plain K) b)
    unfolding step after ends whole_rule
    plain_grows K b = same_steps (λ t. refl) (part_ends_nothing K b)

    pub negated_grows : (K : Open limit Phrase.part n) (b : Boole)
        → Grows (have Phrase.part n K (Boole.negation b)) (have Phrase.test n (negated K) b)
    unfolding step after ends whole_rule
    negated_grows K b = same_steps (λ t. refl) (part_ends_nothing K (Boole.negation b))

    pub first_factor_grows : (K : Open limit Phrase.term n) (a : Arith)
        → Grows (have Phrase.term n K a) (have Phrase.factor n (first_factor K) a)
    unfolding step after ends whole_rule
    first_factor_grows K a = same_steps (λ t. refl) refl

    pub next_factor_grows : (o : Operator) (l : Arith) (K : Open limit Phrase.term n) (a : Arith)
        → Grows (have Phrase.term n K (Arith.binary o l a)) (have Phrase.factor n (next_factor o l K) a)
    unfolding step after ends whole_rule
    next_factor_grows o l K a = same_steps (λ t. refl) refl

  -- ---- a test may begin as an operand does, a part as a test does

  truth_no_operand : (n : ℕ) (K : Open limit Phrase.factor n) (v : Bool) → begins_factor n K (truth v) ≡ none
  unfolding begins_factor nests_factor on_number on_variable on ◌or◌
  truth_no_operand zero K v = refl
  truth_no_operand (suc n) K v = refl

  square_no_operand : (n : ℕ) (K : Open limit Phrase.factor n) → begins_factor n K (mark square) ≡ none
  unfolding begins_factor nests_factor on_number on_variable on given same rank ◌or◌
  square_no_operand zero K = refl
  square_no_operand (suc n) K = refl

  not_no_test : (n : ℕ) (K : Open limit Phrase.test n) → begins_test n K (mark not) ≡ none
  unfolding begins_test nests_test begins_factor nests_factor on_truth on_number on_variable on given same rank ◌or◌
  not_no_test zero K = refl
  not_no_test (suc n) K = refl

  nested_square : (n : ℕ) (K : Open limit Phrase.test n) (t : Token) {R : State limit}
      → nests_test n K t ≡ some R → t ≡ mark square
  unfolding nests_test
  nested_square zero K t e = absurd (nothing e)
  nested_square (suc n) K t e = (on_some square t e).0

  pub operand_grows : (n : ℕ) (K : Open limit Phrase.test n) → Grows (want_sum n (left_side K)) (want_test n K)
  unfolding step ends begins_test
  operand_grows n K = record {
    steps = λ t h. or_second _ (λ R q. let v = truth_some _ t q in refuses (truth_no_operand n _ v.0) (rw v.1 at h))
        (or_second _ (λ R q. refuses (square_no_operand n _) (rw (nested_square n K t q) at h)) h);
    finishes = λ h. h;
  }

  pub test_part_grows : (n : ℕ) (K : Open limit Phrase.part n) → Grows (want_test n (plain K)) (want_part n K)
  unfolding step ends begins_part
  test_part_grows n K = record {
    steps = λ t h. or_second _ (λ R q. refuses (not_no_test n (plain K)) (let e = (on_some not t q).0 in rw e at h)) h;
    finishes = λ h. h;
  }
