-- Every state can still be finished, and without nesting any deeper: the tokens that close what is open, each phrase as short as can be.
use mathlib.Core.Path.{◌≡◌, refl}
use mathlib.Core.Bool.{true}
use mathlib.Core.List.{List, [], ◌∷◌}
use mathlib.Core.Option.{some}
use Prim.Native.Nat.{ℕ}
use lib.IntN.{pos}
use Rattle.rules.specs.Expression.{Arith, Boole, equal}
use Rattle.grammar.specs.Rule.{Rule}
use Rattle.grammar.specs.Token.{Token, number, relation, truth, mark}
use Rattle.grammar.specs.Token.{skip, then, else, end, does}
use Rattle.grammar.specs.Token.{becomes, comma, round, round_end, square_end}
use Rattle.grammar.specs.machine.Reader.{Phrase, Value, State, Open, whole, follow, then_branch, else_branch}
use Rattle.grammar.specs.machine.Reader.{loop_body, in_row, if_test, while_test, squared, choose_test}
use Rattle.grammar.specs.machine.Reader.{first_part, next_part, plain, negated, assigning, left_side}
use Rattle.grammar.specs.machine.Reader.{right_side, bracketed, choose_first, choose_second, first_term}
use Rattle.grammar.specs.machine.Reader.{next_term, first_factor, next_factor, want_statement, want_becomes}
use Rattle.grammar.specs.machine.Reader.{want_part, want_test, want_factor, want_open, have, whole_rule, ends}
use Rattle.grammar.specs.machine.Reader.{next, reach, run}
use Rattle.grammar.proofs.tokens.Runs.{Means, Takes, taken, Grows, grown}
use Rattle.grammar.proofs.tokens.Steps.{takes_skip, takes_becomes, takes_then, takes_else, takes_end}
use Rattle.grammar.proofs.tokens.Steps.{takes_does, takes_loop_end, takes_truth, takes_relation}
use Rattle.grammar.proofs.tokens.Steps.{takes_square_end, takes_number, takes_round_end, takes_choose_round}
use Rattle.grammar.proofs.tokens.Steps.{takes_first_comma, takes_second_comma, takes_choose_end}
use Rattle.grammar.proofs.tokens.Grows.{row_grows, statement_grows, test_grows, first_term_grows}
use Rattle.grammar.proofs.tokens.Grows.{next_term_grows, follow_grows, first_part_grows, next_part_grows}
use Rattle.grammar.proofs.tokens.Grows.{plain_grows, negated_grows, first_factor_grows, next_factor_grows}
use Rattle.grammar.proofs.tokens.Grows.{test_part_grows}

abbrev zero_arith : Arith
zero_arith = Arith.number (pos 0)

module _ {limit : ℕ} where
  unfoldable pub closing : {h : Phrase} {n : ℕ} → Open limit h n → List Token
  closing whole = []
  closing (follow s K) = closing K
  closing (then_branch b K) = mark else ∷ mark skip ∷ mark end ∷ closing K
  closing (else_branch b p K) = mark end ∷ closing K
  closing (loop_body b K) = mark end ∷ closing K
  closing (in_row K) = closing K
  closing (if_test K) = mark then ∷ mark skip ∷ mark else ∷ mark skip ∷ mark end ∷ closing K
  closing (while_test K) = mark does ∷ mark skip ∷ mark end ∷ closing K
  closing (squared K) = mark square_end ∷ closing K
  closing (choose_test K) = mark comma ∷ number 0 ∷ mark comma ∷ number 0 ∷ mark round_end ∷ closing K
  closing (first_part K) = closing K
  closing (next_part b K) = closing K
  closing (plain K) = closing K
  closing (negated K) = closing K
  closing (assigning x K) = closing K
  closing (left_side K) = relation equal ∷ number 0 ∷ closing K
  closing (right_side o a K) = closing K
  closing (bracketed K) = mark round_end ∷ closing K
  closing (choose_first b K) = mark comma ∷ number 0 ∷ mark round_end ∷ closing K
  closing (choose_second b x K) = mark round_end ∷ closing K
  closing (first_term K) = closing K
  closing (next_term o a K) = closing K
  closing (first_factor K) = closing K
  closing (next_factor o a K) = closing K

  grow : {S S' : State limit} {ts : List Token} → Grows S S' → (r : Rule) × Means S ts r → (r : Rule) × Means S' ts r
  grow g m = (m.0, grown g m.1)

  first : {S S' : State limit} {t : Token} {ts : List Token}
      → Takes S t S' → (r : Rule) × Means S' ts r → (r : Rule) × Means S (t ∷ ts) r
  first k m = (m.0, taken k m.1)

  ended : {S : State limit} (r : Rule) → ends S ≡ some r → Means S [] r
  unfolding run reach next
  ended r e = record { is = e }

  closes : {h : Phrase} {n : ℕ} (K : Open limit h n) (v : Value h) → (r : Rule) × Means (have h n K v) (closing K) r
  unfolding closing ends whole_rule
  closes whole p = (p, ended p refl)
  closes (follow s K) p = grow (follow_grows s p K) (closes K (Rule.seq s p))
  closes (then_branch b K) p =
      first (takes_else b p K) (first (takes_skip _) (grow (row_grows _ _) (first (takes_end b p Rule.skip K) (closes K (Rule.if b p Rule.skip)))))
  closes (else_branch b p K) q = first (takes_end b p q K) (closes K (Rule.if b p q))
  closes (loop_body b K) p = first (takes_loop_end b p K) (closes K (Rule.while b p))
  closes (in_row K) s = grow (row_grows K s) (closes K s)
  closes (if_test K) b =
      first (takes_then b K) (first (takes_skip _) (grow (row_grows _ _)
      (first (takes_else b Rule.skip K) (first (takes_skip _) (grow (row_grows _ _) (first (takes_end b Rule.skip Rule.skip K)
      (closes K (Rule.if b Rule.skip Rule.skip))))))))
  closes (while_test K) b =
      first (takes_does b K) (first (takes_skip _) (grow (row_grows _ _) (first (takes_loop_end b Rule.skip K) (closes K (Rule.while b Rule.skip)))))
  closes (squared K) b = first (takes_square_end b K) (closes K b)
  closes (choose_test K) b =
      first (takes_first_comma b K) (first (takes_number 0 _) (grow (first_factor_grows _ _) (grow (first_term_grows _ _)
      (first (takes_second_comma b zero_arith K) (first (takes_number 0 _) (grow (first_factor_grows _ _) (grow (first_term_grows _ _)
      (first (takes_choose_end b zero_arith zero_arith K) (closes K (Arith.choose b zero_arith zero_arith))))))))))
  closes (first_part K) b = grow (first_part_grows K b) (closes K b)
  closes (next_part c K) b = grow (next_part_grows c K b) (closes K (Boole.both c b))
  closes (plain K) b = grow (plain_grows K b) (closes K b)
  closes (negated K) b = grow (negated_grows K b) (closes K (Boole.negation b))
  closes (assigning x K) a = grow (statement_grows x K a) (closes K (Rule.assign x a))
  closes (left_side K) a =
      first (takes_relation equal a K) (first (takes_number 0 _) (grow (first_factor_grows _ _) (grow (first_term_grows _ _)
      (grow (test_grows equal a K zero_arith) (closes K (Boole.compare equal a zero_arith))))))
  closes (right_side o a K) b = grow (test_grows o a K b) (closes K (Boole.compare o a b))
  closes (bracketed K) a = first (takes_round_end a K) (closes K a)
  closes (choose_first b K) x =
      first (takes_second_comma b x K) (first (takes_number 0 _) (grow (first_factor_grows _ _) (grow (first_term_grows _ _)
      (first (takes_choose_end b x zero_arith K) (closes K (Arith.choose b x zero_arith))))))
  closes (choose_second b x K) y = first (takes_choose_end b x y K) (closes K (Arith.choose b x y))
  closes (first_term K) a = grow (first_term_grows K a) (closes K a)
  closes (next_term o l K) a = grow (next_term_grows o l K a) (closes K (Arith.binary o l a))
  closes (first_factor K) a = grow (first_factor_grows K a) (closes K a)
  closes (next_factor o l K) a = grow (next_factor_grows o l K a) (closes K (Arith.binary o l a))

  -- what is wanted comes first
  unfoldable pub finish : State limit → List Token
  finish (want_statement n K) = mark skip ∷ closing K
  finish (want_becomes n x K) = mark becomes ∷ number 0 ∷ closing K
  finish (want_part n K) = truth true ∷ closing K
  finish (want_test n K) = truth true ∷ closing K
  finish (want_factor n K) = number 0 ∷ closing K
  finish (want_open n K) =
      mark round ∷ truth true ∷ mark comma ∷ number 0 ∷ mark comma ∷ number 0 ∷ mark round_end ∷ closing K
  finish (have h n K v) = closing K

  test_finishes : {n : ℕ} (K : Open limit Phrase.test n) → (r : Rule) × Means (want_test n K) (truth true ∷ closing K) r
  test_finishes K = first (takes_truth true K) (closes K (Boole.truth true))

  part_finishes : {n : ℕ} (K : Open limit Phrase.part n) → (r : Rule) × Means (want_part n K) (truth true ∷ closing K) r
  unfolding closing
  part_finishes {n} K = grow (test_part_grows n K) (test_finishes (plain K))

  pub finishes : (S : State limit) → (r : Rule) × Means S (finish S) r
  unfolding finish closing
  finishes (want_statement n K) = first (takes_skip K) (closes K Rule.skip)
  finishes (want_becomes n x K) =
      first (takes_becomes x K) (first (takes_number 0 _) (grow (first_factor_grows _ _) (grow (first_term_grows _ _) (closes (assigning x K) zero_arith))))
  finishes (want_part n K) = part_finishes K
  finishes (want_test n K) = test_finishes K
  finishes (want_factor n K) = first (takes_number 0 K) (closes K zero_arith)
  finishes (want_open n K) = first (takes_choose_round K) (part_finishes (first_part (choose_test K)))
  finishes (have h n K v) = closes K v
