-- Whatever the grammar reads, the machine reads: where it wanted a phrase, and the phrase comes, it means what it means with the
-- phrase at hand.
use mathlib.Core.List.{List}
use Prim.Native.Nat.{ℕ}
use Rattle.rules.specs.Expression.{Arith, Boole}
use Rattle.grammar.specs.Rule.{Rule}
use Rattle.grammar.specs.Token.{Token}
use Rattle.grammar.specs.Grammar.{Row, Statement, Ands, Part, Test, Sum, Term, Factor}
use Rattle.grammar.specs.machine.Reader.{Phrase, Open, follow, then_branch, else_branch, loop_body, in_row}
use Rattle.grammar.specs.machine.Reader.{if_test, while_test, squared, choose_test, first_part, next_part}
use Rattle.grammar.specs.machine.Reader.{plain, negated, assigning, left_side, right_side, bracketed}
use Rattle.grammar.specs.machine.Reader.{choose_first, choose_second, first_term, next_term, first_factor}
use Rattle.grammar.specs.machine.Reader.{next_factor, want_statement, want_part, want_test, want_factor, have}
use Rattle.grammar.specs.machine.Reader.{want_row, want_ands, want_sum, want_term}
use Rattle.grammar.proofs.tokens.Runs.{Means, taken, grown}
use Rattle.grammar.proofs.tokens.Steps.{takes_skip, takes_variable, takes_becomes, takes_semicolon, takes_if}
use Rattle.grammar.proofs.tokens.Steps.{takes_then, takes_else, takes_end, takes_while, takes_does}
use Rattle.grammar.proofs.tokens.Steps.{takes_loop_end, takes_not, takes_truth, takes_relation, takes_square}
use Rattle.grammar.proofs.tokens.Steps.{takes_square_end, takes_number, takes_operand, takes_round}
use Rattle.grammar.proofs.tokens.Steps.{takes_round_end, takes_choose, takes_choose_round, takes_first_comma}
use Rattle.grammar.proofs.tokens.Steps.{takes_second_comma, takes_choose_end, takes_and, takes_sum}
use Rattle.grammar.proofs.tokens.Steps.{takes_product}
use Rattle.grammar.proofs.tokens.Grows.{row_grows, statement_grows, test_grows, first_term_grows}
use Rattle.grammar.proofs.tokens.Grows.{next_term_grows, follow_grows, first_part_grows, next_part_grows}
use Rattle.grammar.proofs.tokens.Grows.{plain_grows, negated_grows, first_factor_grows, next_factor_grows}
use Rattle.grammar.proofs.tokens.Grows.{operand_grows, test_part_grows}

module _ {limit : ℕ} where
  -- ---- the induction on the grammar

  mutual
    pub row_means : {n : ℕ} {ts us : List Token} {p r : Rule} → Row n ts us p → (K : Open limit Phrase.row n)
        → Means (have Phrase.row n K p) us r → Means (want_row n K) ts r
    row_means (Row.last d) K m = statement_means d (in_row K) (grown (row_grows K _) m)
    row_means (Row.more d f) K m =
        statement_means d (in_row K) (taken (takes_semicolon _ K) (row_means f (follow _ K) (grown (follow_grows _ _ K) m)))

    statement_means : {n : ℕ} {ts us : List Token} {s r : Rule}
        → Statement n ts us s → (K : Open limit Phrase.statement n)
        → Means (have Phrase.statement n K s) us r → Means (want_statement n K) ts r
    statement_means (Statement.skips) K m = taken (takes_skip K) m
    statement_means (Statement.assigns d) K m =
        taken (takes_variable _ K) (taken (takes_becomes _ K) (sum_means d (assigning _ K) (grown (statement_grows _ K _) m)))
    statement_means (Statement.ifs b p q) K m =
        taken (takes_if K) (ands_means b (if_test K) (taken (takes_then _ K) (row_means p (then_branch _ K)
        (taken (takes_else _ _ K) (row_means q (else_branch _ _ K) (taken (takes_end _ _ _ K) m))))))
    statement_means (Statement.whiles b p) K m =
        taken (takes_while K) (ands_means b (while_test K) (taken (takes_does _ K) (row_means p (loop_body _ K) (taken (takes_loop_end _ _ K) m))))

    ands_means : {n : ℕ} {ts us : List Token} {b : Boole} {r : Rule} → Ands n ts us b → (K : Open limit Phrase.ands n)
        → Means (have Phrase.ands n K b) us r → Means (want_ands n K) ts r
    ands_means (Ands.part d) K m = part_means d (first_part K) (grown (first_part_grows K _) m)
    ands_means (Ands.ands d f) K m = ands_means d K (taken (takes_and K _) (part_means f (next_part _ K) (grown (next_part_grows _ K _) m)))

    part_means : {n : ℕ} {ts us : List Token} {b : Boole} {r : Rule} → Part n ts us b → (K : Open limit Phrase.part n)
        → Means (have Phrase.part n K b) us r → Means (want_part n K) ts r
    part_means (Part.test d) K m = grown (test_part_grows _ K) (test_means d (plain K) (grown (plain_grows K _) m))
    part_means (Part.nots d) K m = taken (takes_not K) (test_means d (negated K) (grown (negated_grows K _) m))

    test_means : {n : ℕ} {ts us : List Token} {b : Boole} {r : Rule} → Test n ts us b → (K : Open limit Phrase.test n)
        → Means (have Phrase.test n K b) us r → Means (want_test n K) ts r
    test_means (Test.truths) K m = taken (takes_truth _ K) m
    test_means (Test.compares d f) K m =
        grown (operand_grows _ K) (sum_means d (left_side K) (taken (takes_relation _ _ K) (sum_means f (right_side _ _ K) (grown (test_grows _ _ K _) m))))
    test_means (Test.squares d) K m = taken (takes_square K) (ands_means d (squared K) (taken (takes_square_end _ K) m))

    sum_means : {n : ℕ} {ts us : List Token} {a : Arith} {r : Rule} → Sum n ts us a → (K : Open limit Phrase.sum n)
        → Means (have Phrase.sum n K a) us r → Means (want_sum n K) ts r
    sum_means (Sum.term d) K m = term_means d (first_term K) (grown (first_term_grows K _) m)
    sum_means (Sum.sums e d f) K m = sum_means d K (taken (takes_sum K _ _ e) (term_means f (next_term _ _ K) (grown (next_term_grows _ _ K _) m)))

    term_means : {n : ℕ} {ts us : List Token} {a : Arith} {r : Rule} → Term n ts us a → (K : Open limit Phrase.term n)
        → Means (have Phrase.term n K a) us r → Means (want_term n K) ts r
    term_means (Term.factor d) K m = factor_means d (first_factor K) (grown (first_factor_grows K _) m)
    term_means (Term.products e d f) K m =
        term_means d K (taken (takes_product K _ _ e) (factor_means f (next_factor _ _ K) (grown (next_factor_grows _ _ K _) m)))

    factor_means : {n : ℕ} {ts us : List Token} {a : Arith} {r : Rule}
        → Factor n ts us a → (K : Open limit Phrase.factor n)
        → Means (have Phrase.factor n K a) us r → Means (want_factor n K) ts r
    factor_means (Factor.numbers) K m = taken (takes_number _ K) m
    factor_means (Factor.variables) K m = taken (takes_operand _ K) m
    factor_means (Factor.brackets d) K m = taken (takes_round K) (sum_means d (bracketed K) (taken (takes_round_end _ K) m))
    factor_means (Factor.chooses b x y) K m =
        taken (takes_choose K) (taken (takes_choose_round K) (ands_means b (choose_test K) (taken (takes_first_comma _ K) (sum_means x (choose_first _ K)
        (taken (takes_second_comma _ _ K) (sum_means y (choose_second _ _ K) (taken (takes_choose_end _ _ _ K) m)))))))
