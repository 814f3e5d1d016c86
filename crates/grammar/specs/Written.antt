-- The table of a rule (02, A4): "Nodes are written children first, left to right". `follows` (proofs/table/Follows) shows that it does
-- what the rule does.
use Rattle.std.specs.Prelude.{ℕ, suc, ◌+◌, ◌-◌, max, Bool, true, false, List, [], ◌∷◌, ◌++◌}
use Rattle.rules.specs.Value.{word}
use Rattle.rules.specs.Expression.{Arith, Boole, Operator, plus, minus, times, over, rest, Relation, equal, at_most, less}
use Rattle.rules.specs.Table.{Kind, number, variable, binary, choose, truth, compare, negation, both}
use Rattle.rules.specs.Table.{skip, assign, sequence, if, while, unknown}
use Rattle.grammar.specs.Rule.{Rule}

-- a node (01): its kind, and its words p, q, r, which are numbers or children
mutual
  pub data Node : Type 0 where
    node : Kind → Word → Word → Word → Node

  pub data Word : Type 0 where
    plain : ℕ → Word
    child : Node → Word

-- ---- the nodes of a rule, each with the words that 01 gives its kind

unfoldable mutual
  pub arith_node : Arith → Node
  arith_node (Arith.number z) = node number (plain (word z)) (plain 0) (plain 0)
  arith_node (Arith.variable x) = node variable (plain x) (plain 0) (plain 0)
  arith_node (Arith.binary o a b) = node (binary o) (child (arith_node a)) (child (arith_node b)) (plain 0)
  arith_node (Arith.choose b x y) = node choose (child (boole_node b)) (child (arith_node x)) (child (arith_node y))

  pub boole_node : Boole → Node
  boole_node (Boole.truth v) = node (truth v) (plain 0) (plain 0) (plain 0)
  boole_node (Boole.compare o a b) = node (compare o) (child (arith_node a)) (child (arith_node b)) (plain 0)
  boole_node (Boole.negation b) = node negation (child (boole_node b)) (plain 0) (plain 0)
  boole_node (Boole.both a b) = node both (child (boole_node a)) (child (boole_node b)) (plain 0)

unfoldable pub rule_node : Rule → Node
rule_node Rule.skip = node skip (plain 0) (plain 0) (plain 0)
rule_node (Rule.assign x a) = node assign (plain x) (child (arith_node a)) (plain 0)
rule_node (Rule.seq s p) = node sequence (child (rule_node s)) (child (rule_node p)) (plain 0)
rule_node (Rule.if b p q) = node if (child (boole_node b)) (child (rule_node p)) (child (rule_node q))
rule_node (Rule.while b p) = node while (child (boole_node b)) (child (rule_node p)) (plain 0)

-- ---- the number of a kind (01)

unfoldable pub operator_number : Operator → ℕ
operator_number plus = 3
operator_number minus = 4
operator_number times = 5
operator_number over = 6
operator_number rest = 7

unfoldable pub relation_number : Relation → ℕ
relation_number equal = 18
relation_number at_most = 19
relation_number less = 20

unfoldable pub truth_number : Bool → ℕ
truth_number true = 16
truth_number false = 17

unfoldable pub kind_number : Kind → ℕ
kind_number number = 1
kind_number variable = 2
kind_number (binary o) = operator_number o
kind_number choose = 8
kind_number (truth v) = truth_number v
kind_number (compare o) = relation_number o
kind_number negation = 21
kind_number both = 22
kind_number skip = 32
kind_number assign = 33
kind_number sequence = 34
kind_number if = 35
kind_number while = 36
kind_number unknown = 0

-- ---- the words

-- how many nodes there are
unfoldable mutual
  pub size : Node → ℕ
  size (node k p q r) = size_below p + size_below q + size_below r + 1

  pub size_below : Word → ℕ
  size_below (plain w) = 0
  size_below (child n) = size n

-- how deep they are: "one more than its deepest child"
unfoldable mutual
  pub depth : Node → ℕ
  depth (node k p q r) = suc (max (max (depth_below p) (depth_below q)) (depth_below r))

  pub depth_below : Word → ℕ
  depth_below (plain w) = 0
  depth_below (child n) = depth n

-- a word, where the nodes below it are written from node `at` on: a child is the last of these
unfoldable pub word_at : ℕ → Word → ℕ
word_at at (plain w) = w
word_at at (child n) = at + size n - 1

-- the words of a node, written from node `at` on: what is below p, then q, then r, and then its own four
unfoldable mutual
  pub written : ℕ → Node → List ℕ
  written at (node k p q r) =
      written_below at p ++ (written_below (at + size_below p) q ++ (written_below (at + size_below p + size_below q) r
      ++ (kind_number k ∷ word_at at p ∷ word_at (at + size_below p) q ∷ word_at (at + size_below p + size_below q) r ∷ [])))

  pub written_below : ℕ → Word → List ℕ
  written_below at (plain w) = []
  written_below at (child n) = written at n

-- the root is the last
unfoldable pub table_of : Rule → List ℕ
table_of r = written 0 (rule_node r)
