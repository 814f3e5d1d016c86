-- The machine on numbers and nodes does what the machine on tokens does: the move that the tables find leads to the frames and nodes of the
-- next state, and there is none exactly where the token is not taken. The tables are gone through row by row.
use mathlib.Core.Path.{◌≡◌, refl}
use Prim.Native.Nat.{ℕ, zero, suc}
use mathlib.Core.Bool.{true, false}
use mathlib.Core.List.{◌∷◌}
use Rattle.rules.specs.Lists.{fetch}
use Rattle.rules.specs.Table.{kind_of}
use Rattle.rules.specs.Expression.{plus, minus, times, over, rest, equal, at_most, less}
use Rattle.grammar.specs.Token.{Token, number, variable, sign, relation, truth, mark, same, rank}
use Rattle.grammar.specs.Token.{skip, if, then, else, end, while, does, choose, not, and}
use Rattle.grammar.specs.Token.{semicolon, becomes, comma, round, round_end, square, square_end}
use Rattle.grammar.specs.Grammar.{additive}
use Rattle.grammar.specs.Written.{arith_node, boole_node, rule_node}
use Rattle.grammar.specs.machine.Reader.{Phrase, Value, Open, State, want_statement, want_becomes, want_part, want_test}
use Rattle.grammar.specs.machine.Reader.{want_factor, want_open, have}
use Rattle.grammar.specs.machine.Reader.{◌or◌, given, on, on_number, on_variable, on_sum, on_product, on_relation, on_truth, after}
use Rattle.grammar.specs.machine.Reader.{step}
use Rattle.grammar.specs.machine.Reader.{nests_statement, nests_test, nests_factor, begins_statement, begins_factor, begins_test}
use Rattle.grammar.specs.machine.Reader.{begins_part}
use Rattle.tokens.specs.Tables.{acts, moves}
use Rattle.tokens.specs.Flat.{act, move_at, form_of, make, sequences, figure_number, figure_kind, tag_of, closing, seek_by, seek}
use Rattle.tokens.specs.Flat.{row_of, left_of, locate}
use Rattle.tokens.specs.Flat.{closed, counted, taken, figure_at, opened_frame, opened, level, perform, perform_if, performed}
use Rattle.tokens.specs.Flat.{moved}
use Rattle.tokens.specs.Stand.{sign_kind, relation_kind, truth_kind, figure, node_of, earlier, waiting, frames, kept, flat_of}
use Rattle.tokens.specs.Stand.{flat_if}
use Rattle.tokens.specs.Stand

-- what holds of each token
pub tokens : (P : Token → Type 0) → ((k : ℕ) → P (number k)) → ((x : ℕ) → P (variable x))
    → P (sign plus) → P (sign minus) → P (sign times) → P (sign over) → P (sign rest)
    → P (relation equal) → P (relation at_most) → P (relation less) → P (truth true) → P (truth false)
    → P (mark skip) → P (mark if) → P (mark then) → P (mark else) → P (mark end)
    → P (mark while) → P (mark does) → P (mark choose) → P (mark not) → P (mark and)
    → P (mark semicolon) → P (mark becomes) → P (mark comma) → P (mark round) → P (mark round_end)
    → P (mark square) → P (mark square_end)
    → (t : Token) → P t
tokens P a b x0 x1 x2 x3 x4 x5 x6 x7 x8 x9 x10 x11 x12 x13 x14 x15 x16 x17 x18 x19 x20 x21 x22 x23 x24 x25 x26 (number k) = a k
tokens P a b x0 x1 x2 x3 x4 x5 x6 x7 x8 x9 x10 x11 x12 x13 x14 x15 x16 x17 x18 x19 x20 x21 x22 x23 x24 x25 x26 (variable x) = b x
tokens P a b x0 x1 x2 x3 x4 x5 x6 x7 x8 x9 x10 x11 x12 x13 x14 x15 x16 x17 x18 x19 x20 x21 x22 x23 x24 x25 x26 (sign plus) = x0
tokens P a b x0 x1 x2 x3 x4 x5 x6 x7 x8 x9 x10 x11 x12 x13 x14 x15 x16 x17 x18 x19 x20 x21 x22 x23 x24 x25 x26 (sign minus) = x1
tokens P a b x0 x1 x2 x3 x4 x5 x6 x7 x8 x9 x10 x11 x12 x13 x14 x15 x16 x17 x18 x19 x20 x21 x22 x23 x24 x25 x26 (sign times) = x2
tokens P a b x0 x1 x2 x3 x4 x5 x6 x7 x8 x9 x10 x11 x12 x13 x14 x15 x16 x17 x18 x19 x20 x21 x22 x23 x24 x25 x26 (sign over) = x3
tokens P a b x0 x1 x2 x3 x4 x5 x6 x7 x8 x9 x10 x11 x12 x13 x14 x15 x16 x17 x18 x19 x20 x21 x22 x23 x24 x25 x26 (sign rest) = x4
tokens P a b x0 x1 x2 x3 x4 x5 x6 x7 x8 x9 x10 x11 x12 x13 x14 x15 x16 x17 x18 x19 x20 x21 x22 x23 x24 x25 x26 (relation equal) = x5
tokens P a b x0 x1 x2 x3 x4 x5 x6 x7 x8 x9 x10 x11 x12 x13 x14 x15 x16 x17 x18 x19 x20 x21 x22 x23 x24 x25 x26 (relation at_most) = x6
tokens P a b x0 x1 x2 x3 x4 x5 x6 x7 x8 x9 x10 x11 x12 x13 x14 x15 x16 x17 x18 x19 x20 x21 x22 x23 x24 x25 x26 (relation less) = x7
tokens P a b x0 x1 x2 x3 x4 x5 x6 x7 x8 x9 x10 x11 x12 x13 x14 x15 x16 x17 x18 x19 x20 x21 x22 x23 x24 x25 x26 (truth true) = x8
tokens P a b x0 x1 x2 x3 x4 x5 x6 x7 x8 x9 x10 x11 x12 x13 x14 x15 x16 x17 x18 x19 x20 x21 x22 x23 x24 x25 x26 (truth false) = x9
tokens P a b x0 x1 x2 x3 x4 x5 x6 x7 x8 x9 x10 x11 x12 x13 x14 x15 x16 x17 x18 x19 x20 x21 x22 x23 x24 x25 x26 (mark skip) = x10
tokens P a b x0 x1 x2 x3 x4 x5 x6 x7 x8 x9 x10 x11 x12 x13 x14 x15 x16 x17 x18 x19 x20 x21 x22 x23 x24 x25 x26 (mark if) = x11
tokens P a b x0 x1 x2 x3 x4 x5 x6 x7 x8 x9 x10 x11 x12 x13 x14 x15 x16 x17 x18 x19 x20 x21 x22 x23 x24 x25 x26 (mark then) = x12
tokens P a b x0 x1 x2 x3 x4 x5 x6 x7 x8 x9 x10 x11 x12 x13 x14 x15 x16 x17 x18 x19 x20 x21 x22 x23 x24 x25 x26 (mark else) = x13
tokens P a b x0 x1 x2 x3 x4 x5 x6 x7 x8 x9 x10 x11 x12 x13 x14 x15 x16 x17 x18 x19 x20 x21 x22 x23 x24 x25 x26 (mark end) = x14
tokens P a b x0 x1 x2 x3 x4 x5 x6 x7 x8 x9 x10 x11 x12 x13 x14 x15 x16 x17 x18 x19 x20 x21 x22 x23 x24 x25 x26 (mark while) = x15
tokens P a b x0 x1 x2 x3 x4 x5 x6 x7 x8 x9 x10 x11 x12 x13 x14 x15 x16 x17 x18 x19 x20 x21 x22 x23 x24 x25 x26 (mark does) = x16
tokens P a b x0 x1 x2 x3 x4 x5 x6 x7 x8 x9 x10 x11 x12 x13 x14 x15 x16 x17 x18 x19 x20 x21 x22 x23 x24 x25 x26 (mark choose) = x17
tokens P a b x0 x1 x2 x3 x4 x5 x6 x7 x8 x9 x10 x11 x12 x13 x14 x15 x16 x17 x18 x19 x20 x21 x22 x23 x24 x25 x26 (mark not) = x18
tokens P a b x0 x1 x2 x3 x4 x5 x6 x7 x8 x9 x10 x11 x12 x13 x14 x15 x16 x17 x18 x19 x20 x21 x22 x23 x24 x25 x26 (mark and) = x19
tokens P a b x0 x1 x2 x3 x4 x5 x6 x7 x8 x9 x10 x11 x12 x13 x14 x15 x16 x17 x18 x19 x20 x21 x22 x23 x24 x25 x26 (mark semicolon) = x20
tokens P a b x0 x1 x2 x3 x4 x5 x6 x7 x8 x9 x10 x11 x12 x13 x14 x15 x16 x17 x18 x19 x20 x21 x22 x23 x24 x25 x26 (mark becomes) = x21
tokens P a b x0 x1 x2 x3 x4 x5 x6 x7 x8 x9 x10 x11 x12 x13 x14 x15 x16 x17 x18 x19 x20 x21 x22 x23 x24 x25 x26 (mark comma) = x22
tokens P a b x0 x1 x2 x3 x4 x5 x6 x7 x8 x9 x10 x11 x12 x13 x14 x15 x16 x17 x18 x19 x20 x21 x22 x23 x24 x25 x26 (mark round) = x23
tokens P a b x0 x1 x2 x3 x4 x5 x6 x7 x8 x9 x10 x11 x12 x13 x14 x15 x16 x17 x18 x19 x20 x21 x22 x23 x24 x25 x26 (mark round_end) = x24
tokens P a b x0 x1 x2 x3 x4 x5 x6 x7 x8 x9 x10 x11 x12 x13 x14 x15 x16 x17 x18 x19 x20 x21 x22 x23 x24 x25 x26 (mark square) = x25
tokens P a b x0 x1 x2 x3 x4 x5 x6 x7 x8 x9 x10 x11 x12 x13 x14 x15 x16 x17 x18 x19 x20 x21 x22 x23 x24 x25 x26 (mark square_end) = x26

module _ {limit : ℕ} where
  abbrev Moves : {h : Phrase} {n : ℕ} → Open limit h n → Value h → Token → Type 0
  Moves {h} {n} K v t =
      flat_if (after K v t) ≡ performed n (figure t) (seek (Stand.kind_of t) (frames K) (sequences (waiting h K) (node_of h v ∷ kept K)))

  abbrev StepMoves : State limit → Token → Type 0
  StepMoves S t = flat_if (step S t) ≡ moved (flat_of S) (Stand.kind_of t) (figure t)

  pub after_moves : {h : Phrase} {n : ℕ} (K : Open limit h n) (v : Value h) (t : Token) → Moves K v t
  unfolding after flat_if flat_of frames kept earlier waiting node_of arith_node boole_node rule_node
      seek seek_by tag_of closing sequences make figure_number figure_kind performed perform_if perform act move_at acts moves
      closed counted taken figure_at opened_frame opened level form_of kind_of fetch figure
      Stand.kind_of rank sign_kind relation_kind truth_kind same additive ◌or◌ given on on_number on_variable on_sum on_product on_relation on_truth
  after_moves Open.whole v t = refl
  after_moves (Open.follow s K) v t = after_moves K _ t
  after_moves (Open.then_branch b K) v t =
      tokens (Moves (Open.then_branch b K) v)
      (λ k. refl) (λ x. refl) refl refl refl refl refl refl refl refl refl refl refl refl refl refl refl refl refl refl refl refl refl refl
      refl refl refl refl refl
      t
  after_moves (Open.else_branch b p K) v t =
      tokens (Moves (Open.else_branch b p K) v)
      (λ k. refl) (λ x. refl) refl refl refl refl refl refl refl refl refl refl refl refl refl refl refl refl refl refl refl refl refl refl
      refl refl refl refl refl
      t
  after_moves (Open.loop_body b K) v t =
      tokens (Moves (Open.loop_body b K) v)
      (λ k. refl) (λ x. refl) refl refl refl refl refl refl refl refl refl refl refl refl refl refl refl refl refl refl refl refl refl refl
      refl refl refl refl refl
      t
  after_moves (Open.in_row K) v t =
      tokens (Moves (Open.in_row K) v)
      (λ k. after_moves K _ (number k)) (λ x. after_moves K _ (variable x)) (after_moves K _ (sign plus)) (after_moves K _ (sign minus))
      (after_moves K _ (sign times)) (after_moves K _ (sign over)) (after_moves K _ (sign rest)) (after_moves K _ (relation equal))
      (after_moves K _ (relation at_most)) (after_moves K _ (relation less)) (after_moves K _ (truth true)) (after_moves K _ (truth false))
      (after_moves K _ (mark skip)) (after_moves K _ (mark if)) (after_moves K _ (mark then)) (after_moves K _ (mark else))
      (after_moves K _ (mark end)) (after_moves K _ (mark while)) (after_moves K _ (mark does)) (after_moves K _ (mark choose))
      (after_moves K _ (mark not)) (after_moves K _ (mark and)) refl (after_moves K _ (mark becomes)) (after_moves K _ (mark comma))
      (after_moves K _ (mark round)) (after_moves K _ (mark round_end)) (after_moves K _ (mark square)) (after_moves K _ (mark square_end))
      t
  after_moves (Open.if_test K) v t =
      tokens (Moves (Open.if_test K) v)
      (λ k. refl) (λ x. refl) refl refl refl refl refl refl refl refl refl refl refl refl refl refl refl refl refl refl refl refl refl refl
      refl refl refl refl refl
      t
  after_moves (Open.while_test K) v t =
      tokens (Moves (Open.while_test K) v)
      (λ k. refl) (λ x. refl) refl refl refl refl refl refl refl refl refl refl refl refl refl refl refl refl refl refl refl refl refl refl
      refl refl refl refl refl
      t
  after_moves (Open.squared K) v t =
      tokens (Moves (Open.squared K) v)
      (λ k. refl) (λ x. refl) refl refl refl refl refl refl refl refl refl refl refl refl refl refl refl refl refl refl refl refl refl refl
      refl refl refl refl refl
      t
  after_moves (Open.choose_test K) v t =
      tokens (Moves (Open.choose_test K) v)
      (λ k. refl) (λ x. refl) refl refl refl refl refl refl refl refl refl refl refl refl refl refl refl refl refl refl refl refl refl refl
      refl refl refl refl refl
      t
  after_moves (Open.next_part b K) v t =
      tokens (Moves (Open.next_part b K) v)
      (λ k. after_moves K _ (number k)) (λ x. after_moves K _ (variable x)) (after_moves K _ (sign plus)) (after_moves K _ (sign minus))
      (after_moves K _ (sign times)) (after_moves K _ (sign over)) (after_moves K _ (sign rest)) (after_moves K _ (relation equal))
      (after_moves K _ (relation at_most)) (after_moves K _ (relation less)) (after_moves K _ (truth true)) (after_moves K _ (truth false))
      (after_moves K _ (mark skip)) (after_moves K _ (mark if)) (after_moves K _ (mark then)) (after_moves K _ (mark else))
      (after_moves K _ (mark end)) (after_moves K _ (mark while)) (after_moves K _ (mark does)) (after_moves K _ (mark choose))
      (after_moves K _ (mark not)) (after_moves K _ (mark and)) (after_moves K _ (mark semicolon)) (after_moves K _ (mark becomes))
      (after_moves K _ (mark comma)) (after_moves K _ (mark round)) (after_moves K _ (mark round_end)) (after_moves K _ (mark square))
      (after_moves K _ (mark square_end))
      t
  after_moves (Open.negated K) v t =
      tokens (Moves (Open.negated K) v)
      (λ k. after_moves K _ (number k)) (λ x. after_moves K _ (variable x)) (after_moves K _ (sign plus)) (after_moves K _ (sign minus))
      (after_moves K _ (sign times)) (after_moves K _ (sign over)) (after_moves K _ (sign rest)) (after_moves K _ (relation equal))
      (after_moves K _ (relation at_most)) (after_moves K _ (relation less)) (after_moves K _ (truth true)) (after_moves K _ (truth false))
      (after_moves K _ (mark skip)) (after_moves K _ (mark if)) (after_moves K _ (mark then)) (after_moves K _ (mark else))
      (after_moves K _ (mark end)) (after_moves K _ (mark while)) (after_moves K _ (mark does)) (after_moves K _ (mark choose))
      (after_moves K _ (mark not)) (after_moves K _ (mark and)) (after_moves K _ (mark semicolon)) (after_moves K _ (mark becomes))
      (after_moves K _ (mark comma)) (after_moves K _ (mark round)) (after_moves K _ (mark round_end)) (after_moves K _ (mark square))
      (after_moves K _ (mark square_end))
      t
  after_moves (Open.assigning y K) v t =
      tokens (Moves (Open.assigning y K) v)
      (λ k. after_moves K _ (number k)) (λ x. after_moves K _ (variable x)) refl refl (after_moves K _ (sign times))
      (after_moves K _ (sign over)) (after_moves K _ (sign rest)) (after_moves K _ (relation equal)) (after_moves K _ (relation at_most))
      (after_moves K _ (relation less)) (after_moves K _ (truth true)) (after_moves K _ (truth false)) (after_moves K _ (mark skip))
      (after_moves K _ (mark if)) (after_moves K _ (mark then)) (after_moves K _ (mark else)) (after_moves K _ (mark end))
      (after_moves K _ (mark while)) (after_moves K _ (mark does)) (after_moves K _ (mark choose)) (after_moves K _ (mark not))
      (after_moves K _ (mark and)) (after_moves K _ (mark semicolon)) (after_moves K _ (mark becomes)) (after_moves K _ (mark comma))
      (after_moves K _ (mark round)) (after_moves K _ (mark round_end)) (after_moves K _ (mark square)) (after_moves K _ (mark square_end))
      t
  after_moves (Open.left_side K) v t =
      tokens (Moves (Open.left_side K) v)
      (λ k. refl) (λ x. refl) refl refl refl refl refl refl refl refl refl refl refl refl refl refl refl refl refl refl refl refl refl refl
      refl refl refl refl refl
      t
  after_moves (Open.right_side o a K) v t =
      tokens (Moves (Open.right_side o a K) v)
      (λ k. after_moves K _ (number k)) (λ x. after_moves K _ (variable x)) refl refl (after_moves K _ (sign times))
      (after_moves K _ (sign over)) (after_moves K _ (sign rest)) (after_moves K _ (relation equal)) (after_moves K _ (relation at_most))
      (after_moves K _ (relation less)) (after_moves K _ (truth true)) (after_moves K _ (truth false)) (after_moves K _ (mark skip))
      (after_moves K _ (mark if)) (after_moves K _ (mark then)) (after_moves K _ (mark else)) (after_moves K _ (mark end))
      (after_moves K _ (mark while)) (after_moves K _ (mark does)) (after_moves K _ (mark choose)) (after_moves K _ (mark not))
      (after_moves K _ (mark and)) (after_moves K _ (mark semicolon)) (after_moves K _ (mark becomes)) (after_moves K _ (mark comma))
      (after_moves K _ (mark round)) (after_moves K _ (mark round_end)) (after_moves K _ (mark square)) (after_moves K _ (mark square_end))
      t
  after_moves (Open.bracketed K) v t =
      tokens (Moves (Open.bracketed K) v)
      (λ k. refl) (λ x. refl) refl refl refl refl refl refl refl refl refl refl refl refl refl refl refl refl refl refl refl refl refl refl
      refl refl refl refl refl
      t
  after_moves (Open.choose_first b K) v t =
      tokens (Moves (Open.choose_first b K) v)
      (λ k. refl) (λ x. refl) refl refl refl refl refl refl refl refl refl refl refl refl refl refl refl refl refl refl refl refl refl refl
      refl refl refl refl refl
      t
  after_moves (Open.choose_second b w K) v t =
      tokens (Moves (Open.choose_second b w K) v)
      (λ k. refl) (λ x. refl) refl refl refl refl refl refl refl refl refl refl refl refl refl refl refl refl refl refl refl refl refl refl
      refl refl refl refl refl
      t
  after_moves (Open.first_term K) v t =
      tokens (Moves (Open.first_term K) v)
      (λ k. after_moves K _ (number k)) (λ x. after_moves K _ (variable x)) (after_moves K _ (sign plus)) (after_moves K _ (sign minus))
      refl refl refl (after_moves K _ (relation equal)) (after_moves K _ (relation at_most)) (after_moves K _ (relation less))
      (after_moves K _ (truth true)) (after_moves K _ (truth false)) (after_moves K _ (mark skip)) (after_moves K _ (mark if))
      (after_moves K _ (mark then)) (after_moves K _ (mark else)) (after_moves K _ (mark end)) (after_moves K _ (mark while))
      (after_moves K _ (mark does)) (after_moves K _ (mark choose)) (after_moves K _ (mark not)) (after_moves K _ (mark and))
      (after_moves K _ (mark semicolon)) (after_moves K _ (mark becomes)) (after_moves K _ (mark comma)) (after_moves K _ (mark round))
      (after_moves K _ (mark round_end)) (after_moves K _ (mark square)) (after_moves K _ (mark square_end))
      t
  after_moves (Open.next_term o a K) v t =
      tokens (Moves (Open.next_term o a K) v)
      (λ k. after_moves K _ (number k)) (λ x. after_moves K _ (variable x)) (after_moves K _ (sign plus)) (after_moves K _ (sign minus))
      refl refl refl (after_moves K _ (relation equal)) (after_moves K _ (relation at_most)) (after_moves K _ (relation less))
      (after_moves K _ (truth true)) (after_moves K _ (truth false)) (after_moves K _ (mark skip)) (after_moves K _ (mark if))
      (after_moves K _ (mark then)) (after_moves K _ (mark else)) (after_moves K _ (mark end)) (after_moves K _ (mark while))
      (after_moves K _ (mark does)) (after_moves K _ (mark choose)) (after_moves K _ (mark not)) (after_moves K _ (mark and))
      (after_moves K _ (mark semicolon)) (after_moves K _ (mark becomes)) (after_moves K _ (mark comma)) (after_moves K _ (mark round))
      (after_moves K _ (mark round_end)) (after_moves K _ (mark square)) (after_moves K _ (mark square_end))
      t
  after_moves (Open.next_factor o a K) v t =
      tokens (Moves (Open.next_factor o a K) v)
      (λ k. after_moves K _ (number k)) (λ x. after_moves K _ (variable x)) (after_moves K _ (sign plus)) (after_moves K _ (sign minus))
      (after_moves K _ (sign times)) (after_moves K _ (sign over)) (after_moves K _ (sign rest)) (after_moves K _ (relation equal))
      (after_moves K _ (relation at_most)) (after_moves K _ (relation less)) (after_moves K _ (truth true)) (after_moves K _ (truth false))
      (after_moves K _ (mark skip)) (after_moves K _ (mark if)) (after_moves K _ (mark then)) (after_moves K _ (mark else))
      (after_moves K _ (mark end)) (after_moves K _ (mark while)) (after_moves K _ (mark does)) (after_moves K _ (mark choose))
      (after_moves K _ (mark not)) (after_moves K _ (mark and)) (after_moves K _ (mark semicolon)) (after_moves K _ (mark becomes))
      (after_moves K _ (mark comma)) (after_moves K _ (mark round)) (after_moves K _ (mark round_end)) (after_moves K _ (mark square))
      (after_moves K _ (mark square_end))
      t
  after_moves (Open.first_part K) v t = after_moves K _ t
  after_moves (Open.plain K) v t = after_moves K _ t
  after_moves (Open.first_factor K) v t = after_moves K _ t

  pub step_moves : (S : State limit) (t : Token) → StepMoves S t
  unfolding step moved left_of locate row_of flat_if flat_of frames kept earlier waiting node_of arith_node boole_node rule_node
      seek seek_by sequences make figure_number performed perform_if perform act move_at acts moves
      closed counted taken figure_at opened_frame opened level form_of kind_of fetch figure
      Stand.kind_of rank sign_kind relation_kind truth_kind same additive ◌or◌ given on on_number on_variable on_sum on_product on_relation on_truth
      nests_statement nests_test nests_factor begins_statement begins_factor begins_test begins_part
  step_moves (want_statement zero K) t =
      tokens (StepMoves (want_statement zero K))
      (λ k. refl) (λ x. refl) refl refl refl refl refl refl refl refl refl refl refl refl refl refl refl refl refl refl refl refl refl refl
      refl refl refl refl refl
      t
  step_moves (want_statement (suc n) K) t =
      tokens (StepMoves (want_statement (suc n) K))
      (λ k. refl) (λ x. refl) refl refl refl refl refl refl refl refl refl refl refl refl refl refl refl refl refl refl refl refl refl refl
      refl refl refl refl refl
      t
  step_moves (want_part zero K) t =
      tokens (StepMoves (want_part zero K))
      (λ k. refl) (λ x. refl) refl refl refl refl refl refl refl refl refl refl refl refl refl refl refl refl refl refl refl refl refl refl
      refl refl refl refl refl
      t
  step_moves (want_part (suc n) K) t =
      tokens (StepMoves (want_part (suc n) K))
      (λ k. refl) (λ x. refl) refl refl refl refl refl refl refl refl refl refl refl refl refl refl refl refl refl refl refl refl refl refl
      refl refl refl refl refl
      t
  step_moves (want_test zero K) t =
      tokens (StepMoves (want_test zero K))
      (λ k. refl) (λ x. refl) refl refl refl refl refl refl refl refl refl refl refl refl refl refl refl refl refl refl refl refl refl refl
      refl refl refl refl refl
      t
  step_moves (want_test (suc n) K) t =
      tokens (StepMoves (want_test (suc n) K))
      (λ k. refl) (λ x. refl) refl refl refl refl refl refl refl refl refl refl refl refl refl refl refl refl refl refl refl refl refl refl
      refl refl refl refl refl
      t
  step_moves (want_factor zero K) t =
      tokens (StepMoves (want_factor zero K))
      (λ k. refl) (λ x. refl) refl refl refl refl refl refl refl refl refl refl refl refl refl refl refl refl refl refl refl refl refl refl
      refl refl refl refl refl
      t
  step_moves (want_factor (suc n) K) t =
      tokens (StepMoves (want_factor (suc n) K))
      (λ k. refl) (λ x. refl) refl refl refl refl refl refl refl refl refl refl refl refl refl refl refl refl refl refl refl refl refl refl
      refl refl refl refl refl
      t
  step_moves (want_becomes zero y K) t =
      tokens (StepMoves (want_becomes zero y K))
      (λ k. refl) (λ x. refl) refl refl refl refl refl refl refl refl refl refl refl refl refl refl refl refl refl refl refl refl refl refl
      refl refl refl refl refl
      t
  step_moves (want_becomes (suc n) y K) t =
      tokens (StepMoves (want_becomes (suc n) y K))
      (λ k. refl) (λ x. refl) refl refl refl refl refl refl refl refl refl refl refl refl refl refl refl refl refl refl refl refl refl refl
      refl refl refl refl refl
      t
  step_moves (want_open zero K) t =
      tokens (StepMoves (want_open zero K))
      (λ k. refl) (λ x. refl) refl refl refl refl refl refl refl refl refl refl refl refl refl refl refl refl refl refl refl refl refl refl
      refl refl refl refl refl
      t
  step_moves (want_open (suc n) K) t =
      tokens (StepMoves (want_open (suc n) K))
      (λ k. refl) (λ x. refl) refl refl refl refl refl refl refl refl refl refl refl refl refl refl refl refl refl refl refl refl refl refl
      refl refl refl refl refl
      t
  step_moves (have h n K v) t = after_moves K v t
