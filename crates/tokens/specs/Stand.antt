-- How the machine on numbers and nodes stands for the machine on tokens: the kind of a token and its number, and a state as frames and nodes.
use Rattle.std.specs.Prelude.{ℕ, suc, Bool, true, false, List, [], ◌∷◌, pos}
use Rattle.std.proofs.Math.Option.{Option, none, some}
use Rattle.rules.specs.Value.{word}
use Rattle.rules.specs.Expression.{Operator, plus, minus, times, over, rest, Relation, equal, at_most, less}
use Rattle.rules.specs.Table.{binary, compare}
use Rattle.grammar.specs.Token.{Token, number, variable, sign, relation, truth, mark, rank}
use Rattle.grammar.specs.Written.{Node, arith_node, boole_node, rule_node}
use Rattle.grammar.specs.machine.Reader.{Phrase, Value, Open, State, want_statement, want_becomes, want_part, want_test}
use Rattle.grammar.specs.machine.Reader.{want_factor, want_open, have}
use Rattle.tokens.specs.Flat.{sequences, Figure, amount, kind, Frame, frame, Flat, flat}

unfoldable pub sign_kind : Operator → ℕ
sign_kind plus = 17
sign_kind minus = 18
sign_kind times = 19
sign_kind over = 20
sign_kind rest = 21

unfoldable pub relation_kind : Relation → ℕ
relation_kind equal = 22
relation_kind at_most = 23
relation_kind less = 24

unfoldable pub truth_kind : Bool → ℕ
truth_kind true = 25
truth_kind false = 26

-- the fixed tokens in their order, a number, a variable
unfoldable pub kind_of : Token → ℕ
kind_of (mark m) = rank m
kind_of (sign o) = sign_kind o
kind_of (relation o) = relation_kind o
kind_of (truth v) = truth_kind v
kind_of (number k) = 27
kind_of (variable x) = 28

-- its number: an operator or a relation is the kind of its node
unfoldable pub figure : Token → Figure
figure (mark m) = amount 0
figure (sign o) = kind (binary o)
figure (relation o) = kind (compare o)
figure (truth v) = amount 0
figure (number k) = amount (word (pos k))
figure (variable x) = amount x

unfoldable pub node_of : (h : Phrase) → Value h → Node
node_of Phrase.row p = rule_node p
node_of Phrase.statement s = rule_node s
node_of Phrase.ands b = boole_node b
node_of Phrase.part b = boole_node b
node_of Phrase.test b = boole_node b
node_of Phrase.sum a = arith_node a
node_of Phrase.term a = arith_node a
node_of Phrase.factor a = arith_node a

module _ {limit : ℕ} where
  -- the earlier statements of an open row
  unfoldable pub earlier : {n : ℕ} → Open limit Phrase.row n → ℕ
  earlier Open.whole = 0
  earlier (Open.follow s K) = suc (earlier K)
  earlier (Open.then_branch b K) = 0
  earlier (Open.else_branch b p K) = 0
  earlier (Open.loop_body b K) = 0

  -- those that wait for the phrase at hand
  unfoldable pub waiting : (h : Phrase) {n : ℕ} → Open limit h n → ℕ
  waiting Phrase.row K = earlier K
  waiting Phrase.statement K = 0
  waiting Phrase.ands K = 0
  waiting Phrase.part K = 0
  waiting Phrase.test K = 0
  waiting Phrase.sum K = 0
  waiting Phrase.term K = 0
  waiting Phrase.factor K = 0

  -- the frames; those that only wait for their one part are left out
  unfoldable pub frames : {h : Phrase} {n : ℕ} → Open limit h n → List Frame
  frames Open.whole = []
  frames (Open.follow s K) = frames K
  frames (Open.then_branch b K) = frame 13 (amount 0) ∷ frames K
  frames (Open.else_branch b p K) = frame 17 (amount 0) ∷ frames K
  frames (Open.loop_body b K) = frame 14 (amount 0) ∷ frames K
  frames (Open.in_row K) = frame 19 (amount (earlier K)) ∷ frames K
  frames (Open.if_test K) = frame 20 (amount 0) ∷ frames K
  frames (Open.while_test K) = frame 21 (amount 0) ∷ frames K
  frames (Open.squared K) = frame 22 (amount 0) ∷ frames K
  frames (Open.choose_test K) = frame 23 (amount 0) ∷ frames K
  frames (Open.first_part K) = frames K
  frames (Open.next_part b K) = frame 15 (amount 0) ∷ frames K
  frames (Open.plain K) = frames K
  frames (Open.negated K) = frame 25 (amount 0) ∷ frames K
  frames (Open.assigning x K) = frame 28 (amount x) ∷ frames K
  frames (Open.left_side K) = frame 26 (amount 0) ∷ frames K
  frames (Open.right_side o a K) = frame 29 (kind (compare o)) ∷ frames K
  frames (Open.bracketed K) = frame 24 (amount 0) ∷ frames K
  frames (Open.choose_first b K) = frame 16 (amount 0) ∷ frames K
  frames (Open.choose_second b x K) = frame 18 (amount 0) ∷ frames K
  frames (Open.first_term K) = frame 27 (amount 0) ∷ frames K
  frames (Open.next_term o a K) = frame 30 (kind (binary o)) ∷ frames K
  frames (Open.first_factor K) = frames K
  frames (Open.next_factor o a K) = frame 31 (kind (binary o)) ∷ frames K

  -- the nodes of what is kept in the open phrases, the last first
  unfoldable pub kept : {h : Phrase} {n : ℕ} → Open limit h n → List Node
  kept Open.whole = []
  kept (Open.follow s K) = rule_node s ∷ kept K
  kept (Open.then_branch b K) = boole_node b ∷ kept K
  kept (Open.else_branch b p K) = rule_node p ∷ boole_node b ∷ kept K
  kept (Open.loop_body b K) = boole_node b ∷ kept K
  kept (Open.in_row K) = kept K
  kept (Open.if_test K) = kept K
  kept (Open.while_test K) = kept K
  kept (Open.squared K) = kept K
  kept (Open.choose_test K) = kept K
  kept (Open.first_part K) = kept K
  kept (Open.next_part b K) = boole_node b ∷ kept K
  kept (Open.plain K) = kept K
  kept (Open.negated K) = kept K
  kept (Open.assigning x K) = kept K
  kept (Open.left_side K) = kept K
  kept (Open.right_side o a K) = arith_node a ∷ kept K
  kept (Open.bracketed K) = kept K
  kept (Open.choose_first b K) = boole_node b ∷ kept K
  kept (Open.choose_second b x K) = arith_node x ∷ boole_node b ∷ kept K
  kept (Open.first_term K) = kept K
  kept (Open.next_term o a K) = arith_node a ∷ kept K
  kept (Open.first_factor K) = kept K
  kept (Open.next_factor o a K) = arith_node a ∷ kept K

  unfoldable pub flat_of : State limit → Flat
  flat_of (want_statement n K) = flat 0 n (frames K) (kept K)
  flat_of (want_becomes n x K) = flat 1 n (frame 28 (amount x) ∷ frames K) (kept K)
  flat_of (want_part n K) = flat 2 n (frames K) (kept K)
  flat_of (want_test n K) = flat 3 n (frames K) (kept K)
  flat_of (want_factor n K) = flat 4 n (frames K) (kept K)
  flat_of (want_open n K) = flat 5 n (frames K) (kept K)
  flat_of (have h n K v) = flat 6 n (frames K) (sequences (waiting h K) (node_of h v ∷ kept K))

  unfoldable pub flat_if : Option (State limit) → Option Flat
  flat_if none = none
  flat_if (some S) = some (flat_of S)
