-- Every word of a typed rule's table is below 2 ^ 32, so that its text has room for it.
use mathlib.Core.List.{List, [], ◌∷◌, ◌++◌}
use Prim.Native.Nat.{ℕ, zero, suc, ◌+◌, ◌<◌, ◌≤◌}
use native.Mathlib.Nat.{mod-lt}
use native.Mathlib.Omega.{arith}
use lib.IntN.{ℤ, pos, negsuc}
use lib.ListN.{length, get_or}
use Rattle.rules.specs.Value.{word}
use Rattle.rules.specs.Expression.{Arith, Boole, Operator, plus, minus, times, over, rest, Relation, equal, at_most, less}
use Rattle.rules.specs.Table.{Kind, Slot, var, row_of, number, variable, binary, choose, truth, compare, negation, both}
use Rattle.rules.specs.Table.{skip, assign, sequence, if, while, unknown}
use Rattle.grammar.specs.Rule.{Rule}
use Rattle.grammar.specs.Layout.{InGrammar}
use Rattle.grammar.specs.Written.{Node, node, Word, plain, child, arith_node, boole_node, rule_node, size, size_below, word_at, written, written_below, table_of}
use Rattle.grammar.specs.Written.{kind_number, operator_number, relation_number, truth_number}
use Rattle.grammar.proofs.bytes.InRange.{laid_in}
use Rattle.grammar.proofs.table.TypedTable.{Fits, fits, FitsPlace, is_var, is_child}
use Rattle.grammar.proofs.table.TypedNodes.{row_fits}

-- ---- lists of words

data Small : List ℕ → Type 0 where
  none : Small []
  some : {w : ℕ} {ws : List ℕ} → w < 4294967296 → Small ws → Small (w ∷ ws)

both_small : {v w : List ℕ} → Small v → Small w → Small (v ++ w)
both_small none b = b
both_small (some h a) b = some h (both_small a b)

small_at : {ws : List ℕ} → Small ws → (i : ℕ) → i < length ws → get_or ws i 0 < 4294967296
small_at none i h = absurd (omega arith)
small_at (some l a) zero h = l
small_at (some l a) (suc i) h = small_at a i (omega arith)

-- ---- nodes whose plain words are below 2 ^ 32

mutual
  data Narrow : Node → Type 0 where
    narrow : {k : Kind} {p q r : Word} → NarrowWord p → NarrowWord q → NarrowWord r → Narrow (node k p q r)

  data NarrowWord : Word → Type 0 where
    narrow_plain : {w : ℕ} → w < 4294967296 → NarrowWord (plain w)
    narrow_child : {n : Node} → Narrow n → NarrowWord (child n)

zero_word : NarrowWord (plain 0)
zero_word = narrow_plain {w = 0} (omega arith)

integer_word : (z : ℤ) → word z < 4294967296
integer_word (pos n) = mod-lt n (omega arith)
integer_word (negsuc n) = omega arith

variable_word : {x : ℕ} → FitsPlace var (plain x) → NarrowWord (plain x)
variable_word {x} (is_var h) = narrow_plain {w = x} (omega arith)

child_fits : {s : Slot} {n : Node} → FitsPlace s (child n) → Fits n
child_fits (is_child f c) = f

mutual
  unfolding arith_node boole_node row_of

  narrow_arith : (a : Arith) → Fits (arith_node a) → Narrow (arith_node a)
  narrow_arith (Arith.number z) f = narrow (narrow_plain (integer_word z)) zero_word zero_word
  narrow_arith (Arith.variable x) (fits e c p q r) = narrow (variable_word p) zero_word zero_word
  narrow_arith (Arith.binary o a b) (fits e c p q r) =
      narrow (narrow_child (narrow_arith a (child_fits p))) (narrow_child (narrow_arith b (child_fits q))) zero_word
  narrow_arith (Arith.choose b x y) (fits e c p q r) =
      narrow (narrow_child (narrow_boole b (child_fits p))) (narrow_child (narrow_arith x (child_fits q))) (narrow_child (narrow_arith y (child_fits r)))

  narrow_boole : (b : Boole) → Fits (boole_node b) → Narrow (boole_node b)
  narrow_boole (Boole.truth v) f = narrow zero_word zero_word zero_word
  narrow_boole (Boole.compare o a b) (fits e c p q r) =
      narrow (narrow_child (narrow_arith a (child_fits p))) (narrow_child (narrow_arith b (child_fits q))) zero_word
  narrow_boole (Boole.negation b) (fits e c p q r) = narrow (narrow_child (narrow_boole b (child_fits p))) zero_word zero_word
  narrow_boole (Boole.both a b) (fits e c p q r) =
      narrow (narrow_child (narrow_boole a (child_fits p))) (narrow_child (narrow_boole b (child_fits q))) zero_word

narrow_rule : (p : Rule) → Fits (rule_node p) → Narrow (rule_node p)
unfolding rule_node row_of
narrow_rule Rule.skip f = narrow zero_word zero_word zero_word
narrow_rule (Rule.assign x a) (fits e c p q r) = narrow (variable_word p) (narrow_child (narrow_arith a (child_fits q))) zero_word
narrow_rule (Rule.seq s t) (fits e c p q r) =
    narrow (narrow_child (narrow_rule s (child_fits p))) (narrow_child (narrow_rule t (child_fits q))) zero_word
narrow_rule (Rule.if b s t) (fits e c p q r) =
    narrow (narrow_child (narrow_boole b (child_fits p))) (narrow_child (narrow_rule s (child_fits q))) (narrow_child (narrow_rule t (child_fits r)))
narrow_rule (Rule.while b s) (fits e c p q r) =
    narrow (narrow_child (narrow_boole b (child_fits p))) (narrow_child (narrow_rule s (child_fits q))) zero_word

-- ---- their words as written

operator_small : (o : Operator) → operator_number o < 64
unfolding operator_number
operator_small plus = omega arith
operator_small minus = omega arith
operator_small times = omega arith
operator_small over = omega arith
operator_small rest = omega arith

relation_small : (o : Relation) → relation_number o < 64
unfolding relation_number
relation_small equal = omega arith
relation_small at_most = omega arith
relation_small less = omega arith

kind_small : (k : Kind) → kind_number k < 64
unfolding kind_number truth_number
kind_small number = omega arith
kind_small variable = omega arith
kind_small (binary o) = operator_small o
kind_small choose = omega arith
kind_small (truth mathlib.Core.Bool.true) = omega arith
kind_small (truth mathlib.Core.Bool.false) = omega arith
kind_small (compare o) = relation_small o
kind_small negation = omega arith
kind_small both = omega arith
kind_small skip = omega arith
kind_small assign = omega arith
kind_small sequence = omega arith
kind_small if = omega arith
kind_small while = omega arith
kind_small unknown = omega arith

word_small : (p : Word) (at : ℕ) → NarrowWord p → at + size_below p ≤ 1024 → word_at at p < 4294967296
unfolding word_at size_below
word_small (plain w) at (narrow_plain h) l = h
word_small (child n) at (narrow_child h) l = omega arith

mutual
  unfolding written written_below size size_below

  written_small : (n : Node) (at : ℕ) → Narrow n → at + size n ≤ 1024 → Small (written at n)
  written_small (node k p q r) at (narrow a b c) l =
      let first = at + size_below p in
      let second = at + size_below p + size_below q in
      both_small (below_small p at a (omega arith))
      (both_small (below_small q first b (omega arith))
      (both_small (below_small r second c (omega arith))
      (some (omega (arith, kind_small k))
      (some (word_small p at a (omega arith))
      (some (word_small q first b (omega arith))
      (some (word_small r second c (omega arith)) none))))))

  below_small : (p : Word) (at : ℕ) → NarrowWord p → at + size_below p ≤ 1024 → Small (written_below at p)
  below_small (plain w) at h l = none
  below_small (child n) at (narrow_child h) l = written_small n at h l

pub table_small : {text : List ℕ} {p : Rule} → InGrammar text p → size (rule_node p) ≤ 1024
    → (i : ℕ) → i < length (table_of p) → get_or (table_of p) i 0 < 4294967296
unfolding table_of
table_small {p = p} g few =
    small_at (written_small (rule_node p) 0 (narrow_rule p (row_fits g.2 (laid_in g.1)).fitted) (omega arith))
