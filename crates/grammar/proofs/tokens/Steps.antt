-- The steps of the machine, one for each place of a token in the rules of the grammar.
use mathlib.Core.Path.{◌≡◌, refl}
use mathlib.Core.Bool.{Bool, true, false}
use Prim.Native.Nat.{ℕ, suc}
use lib.IntN.{pos}
use Rattle.rules.specs.Expression.{Arith, Boole, Operator, Relation}
use Rattle.grammar.specs.Rule.{Rule}
use Rattle.grammar.specs.Token.{number, variable, sign, relation, truth, mark, rank, same}
use Rattle.grammar.specs.Token.{skip, if, then, else, end, while, does, choose, not, and}
use Rattle.grammar.specs.Token.{semicolon, becomes, comma, round, round_end, square, square_end}
use Rattle.grammar.specs.Grammar.{additive}
use Rattle.grammar.specs.machine.Reader.{Phrase, Open, follow, then_branch, else_branch, loop_body, in_row}
use Rattle.grammar.specs.machine.Reader.{if_test, while_test, squared, choose_test, next_part, negated}
use Rattle.grammar.specs.machine.Reader.{assigning, left_side, right_side, bracketed, choose_first}
use Rattle.grammar.specs.machine.Reader.{choose_second, first_term, next_term, next_factor, want_statement}
use Rattle.grammar.specs.machine.Reader.{want_becomes, want_part, want_test, want_factor, want_open, have}
use Rattle.grammar.specs.machine.Reader.{want_row, want_ands, want_sum, want_term, ◌or◌, given, on, on_number}
use Rattle.grammar.specs.machine.Reader.{on_variable, on_sum, on_product, on_relation, on_truth, after}
use Rattle.grammar.specs.machine.Reader.{nests_statement, nests_test, nests_factor, begins_statement, begins_factor}
use Rattle.grammar.specs.machine.Reader.{begins_test, begins_part, step}
use Rattle.grammar.proofs.tokens.Runs.{Takes}

module _ {limit : ℕ} where
  pub takes_skip : {n : ℕ} (K : Open limit Phrase.statement n)
      → Takes (want_statement n K) (mark skip) (have Phrase.statement n K Rule.skip)
  unfolding step begins_statement on given same rank ◌or◌
  takes_skip K = record { is = refl }

  pub takes_variable : {n : ℕ} (x : ℕ) (K : Open limit Phrase.statement n)
      → Takes (want_statement n K) (variable x) (want_becomes n x K)
  unfolding step begins_statement on_variable on ◌or◌
  takes_variable x K = record { is = refl }

  pub takes_becomes : {n : ℕ} (x : ℕ) (K : Open limit Phrase.statement n)
      → Takes (want_becomes n x K) (mark becomes) (want_sum n (assigning x K))
  unfolding step on given same rank ◌or◌
  takes_becomes x K = record { is = refl }

  pub takes_semicolon : {n : ℕ} (s : Rule) (K : Open limit Phrase.row n)
      → Takes (have Phrase.statement n (in_row K) s) (mark semicolon) (want_row n (follow s K))
  unfolding step after on given same rank ◌or◌
  takes_semicolon s K = record { is = refl }

  pub takes_if : {n : ℕ} (K : Open limit Phrase.statement (suc n))
      → Takes (want_statement (suc n) K) (mark if) (want_ands n (if_test K))
  unfolding step begins_statement nests_statement on_variable on given same rank ◌or◌
  takes_if K = record { is = refl }

  pub takes_then : {n : ℕ} (b : Boole) (K : Open limit Phrase.statement (suc n))
      → Takes (have Phrase.ands n (if_test K) b) (mark then) (want_row n (then_branch b K))
  unfolding step after on given same rank ◌or◌
  takes_then b K = record { is = refl }

  pub takes_else : {n : ℕ} (b : Boole) (p : Rule) (K : Open limit Phrase.statement (suc n))
      → Takes (have Phrase.row n (then_branch b K) p) (mark else) (want_row n (else_branch b p K))
  unfolding step after on given same rank ◌or◌
  takes_else b p K = record { is = refl }

  pub takes_end : {n : ℕ} (b : Boole) (p q : Rule) (K : Open limit Phrase.statement (suc n))
      → Takes (have Phrase.row n (else_branch b p K) q) (mark end) (have Phrase.statement (suc n) K (Rule.if b p q))
  unfolding step after on given same rank ◌or◌
  takes_end b p q K = record { is = refl }

  pub takes_while : {n : ℕ} (K : Open limit Phrase.statement (suc n))
      → Takes (want_statement (suc n) K) (mark while) (want_ands n (while_test K))
  unfolding step begins_statement nests_statement on_variable on given same rank ◌or◌
  takes_while K = record { is = refl }

  pub takes_does : {n : ℕ} (b : Boole) (K : Open limit Phrase.statement (suc n))
      → Takes (have Phrase.ands n (while_test K) b) (mark does) (want_row n (loop_body b K))
  unfolding step after on given same rank ◌or◌
  takes_does b K = record { is = refl }

  pub takes_loop_end : {n : ℕ} (b : Boole) (p : Rule) (K : Open limit Phrase.statement (suc n))
      → Takes (have Phrase.row n (loop_body b K) p) (mark end) (have Phrase.statement (suc n) K (Rule.while b p))
  unfolding step after on given same rank ◌or◌
  takes_loop_end b p K = record { is = refl }

  pub takes_not : {n : ℕ} (K : Open limit Phrase.part n) → Takes (want_part n K) (mark not) (want_test n (negated K))
  unfolding step begins_part on given same rank ◌or◌
  takes_not K = record { is = refl }

  pub takes_truth : {n : ℕ} (v : Bool) (K : Open limit Phrase.test n)
      → Takes (want_test n K) (truth v) (have Phrase.test n K (Boole.truth v))
  unfolding step begins_test on_truth ◌or◌
  takes_truth v K = record { is = refl }

  pub takes_relation : {n : ℕ} (o : Relation) (a : Arith) (K : Open limit Phrase.test n)
      → Takes (have Phrase.sum n (left_side K) a) (relation o) (want_sum n (right_side o a K))
  unfolding step after on_sum on_relation ◌or◌
  takes_relation o a K = record { is = refl }

  pub takes_square : {n : ℕ} (K : Open limit Phrase.test (suc n))
      → Takes (want_test (suc n) K) (mark square) (want_ands n (squared K))
  unfolding step begins_test nests_test on_truth on given same rank ◌or◌
  takes_square K = record { is = refl }

  pub takes_square_end : {n : ℕ} (b : Boole) (K : Open limit Phrase.test (suc n))
      → Takes (have Phrase.ands n (squared K) b) (mark square_end) (have Phrase.test (suc n) K b)
  unfolding step after on given same rank ◌or◌
  takes_square_end b K = record { is = refl }

  pub takes_number : {n : ℕ} (k : ℕ) (K : Open limit Phrase.factor n)
      → Takes (want_factor n K) (number k) (have Phrase.factor n K (Arith.number (pos k)))
  unfolding step begins_factor on_number ◌or◌
  takes_number k K = record { is = refl }

  pub takes_operand : {n : ℕ} (x : ℕ) (K : Open limit Phrase.factor n)
      → Takes (want_factor n K) (variable x) (have Phrase.factor n K (Arith.variable x))
  unfolding step begins_factor on_number on_variable ◌or◌
  takes_operand x K = record { is = refl }

  pub takes_round : {n : ℕ} (K : Open limit Phrase.factor (suc n))
      → Takes (want_factor (suc n) K) (mark round) (want_sum n (bracketed K))
  unfolding step begins_factor nests_factor on_number on_variable on given same rank ◌or◌
  takes_round K = record { is = refl }

  pub takes_round_end : {n : ℕ} (a : Arith) (K : Open limit Phrase.factor (suc n))
      → Takes (have Phrase.sum n (bracketed K) a) (mark round_end) (have Phrase.factor (suc n) K a)
  unfolding step after on_sum on given same rank ◌or◌
  takes_round_end a K = record { is = refl }

  pub takes_choose : {n : ℕ} (K : Open limit Phrase.factor (suc n))
      → Takes (want_factor (suc n) K) (mark choose) (want_open n K)
  unfolding step begins_factor nests_factor on_number on_variable on given same rank ◌or◌
  takes_choose K = record { is = refl }

  pub takes_choose_round : {n : ℕ} (K : Open limit Phrase.factor (suc n))
      → Takes (want_open n K) (mark round) (want_ands n (choose_test K))
  unfolding step on given same rank ◌or◌
  takes_choose_round K = record { is = refl }

  pub takes_first_comma : {n : ℕ} (b : Boole) (K : Open limit Phrase.factor (suc n))
      → Takes (have Phrase.ands n (choose_test K) b) (mark comma) (want_sum n (choose_first b K))
  unfolding step after on given same rank ◌or◌
  takes_first_comma b K = record { is = refl }

  pub takes_second_comma : {n : ℕ} (b : Boole) (x : Arith) (K : Open limit Phrase.factor (suc n))
      → Takes (have Phrase.sum n (choose_first b K) x) (mark comma) (want_sum n (choose_second b x K))
  unfolding step after on_sum on given same rank ◌or◌
  takes_second_comma b x K = record { is = refl }

  pub takes_choose_end : {n : ℕ} (b : Boole) (x y : Arith) (K : Open limit Phrase.factor (suc n))
      → Takes (have Phrase.sum n (choose_second b x K) y) (mark round_end) (have Phrase.factor (suc n) K (Arith.choose b x y))
  unfolding step after on_sum on given same rank ◌or◌
  takes_choose_end b x y K = record { is = refl }

  -- ---- what a phrase at hand takes to grow

  pub takes_and : {n : ℕ} (K : Open limit Phrase.ands n) (b : Boole)
      → Takes (have Phrase.ands n K b) (mark and) (want_part n (next_part b K))
  unfolding step after on given same rank ◌or◌
  takes_and (if_test K) b = record { is = refl }
  takes_and (while_test K) b = record { is = refl }
  takes_and (squared K) b = record { is = refl }
  takes_and (choose_test K) b = record { is = refl }

  pub takes_sum : {n : ℕ} (K : Open limit Phrase.sum n) (a : Arith) (o : Operator) → additive o ≡ true
      → Takes (have Phrase.sum n K a) (sign o) (want_term n (next_term o a K))
  unfolding step after on_sum given ◌or◌
  takes_sum (assigning x K) a o e = record { is = rw e }
  takes_sum (left_side K) a o e = record { is = rw e }
  takes_sum (right_side c l K) a o e = record { is = rw e }
  takes_sum (bracketed K) a o e = record { is = rw e }
  takes_sum (choose_first b K) a o e = record { is = rw e }
  takes_sum (choose_second b x K) a o e = record { is = rw e }

  pub takes_product : {n : ℕ} (K : Open limit Phrase.term n) (a : Arith) (o : Operator) → additive o ≡ false
      → Takes (have Phrase.term n K a) (sign o) (want_factor n (next_factor o a K))
  unfolding step after on_product given ◌or◌
  takes_product (first_term K) a o e = record { is = rw e }
  takes_product (next_term p l K) a o e = record { is = rw e }
