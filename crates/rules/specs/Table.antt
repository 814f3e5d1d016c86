-- The table (01, "The table" and "Verdicts"): frames, kinds, the tree of a node, and refusals 1 to 9.
use Rattle.std.specs.Prelude.{◌≡◌, ℕ, suc, ◌+◌, ◌*◌, ◌/◌, ◌%◌, ◌-◌, min, max, Bool, true, false, not, cond, ◌&&◌, List, [], ◌∷◌, ◌++◌, eqb, ltb, leb, pos, length, get_or}
use Rattle.std.proofs.Math.Option.{Option, none, some}
use Rattle.rules.specs.Lists.{fetch, joined, at}
use Rattle.rules.specs.Value.{value}
use Rattle.rules.specs.Expression.{Arith, Boole, Operator, plus, minus, times, over, rest, Relation, equal, at_most, less, value_in, truth_in}
use Rattle.rules.specs.While.{Stm, Meaning}
use Rattle.rules.specs.Refusal.{fine, refuse, refuse_lowest, ◌or_else◌}
use Rattle.rules.specs.declared.Refusal.{Refusal}

-- "four to a node: kind, p, q, r": word i of node n
abbrev pub field : List ℕ → ℕ → ℕ → ℕ
field t n i = get_or t (4 * n + i) 0

abbrev pub nodes : List ℕ → ℕ
nodes t = length t / 4

-- "the last is the root"
abbrev pub root : List ℕ → ℕ
root t = nodes t - 1

pub data Kind : Type 0 where
  number variable choose negation both skip assign sequence if while unknown : Kind
  binary : Operator → Kind
  truth : Bool → Kind
  compare : Relation → Kind

abbrev pub kinds : List (ℕ × Kind)
kinds =
    (1, number) ∷ (2, variable)
    ∷ (3, binary plus) ∷ (4, binary minus) ∷ (5, binary times) ∷ (6, binary over) ∷ (7, binary rest)
    ∷ (8, choose)
    ∷ (16, truth true) ∷ (17, truth false)
    ∷ (18, compare equal) ∷ (19, compare at_most) ∷ (20, compare less)
    ∷ (21, negation) ∷ (22, both)
    ∷ (32, skip) ∷ (33, assign) ∷ (34, sequence) ∷ (35, if) ∷ (36, while) ∷ []

unfoldable pub kind_of : ℕ → Kind
kind_of k = elim (fetch kinds k) [ some kind ↦ kind | none ↦ unknown ]

abbrev pub kind_at : List ℕ → ℕ → Kind
kind_at t n = kind_of (field t n 0)

-- "Kinds 1 to 8 are arithmetic, 16 to 22 boolean, 32 to 36 statements."
pub data Class : Type 0 where
  arithmetic boolean statement no_class : Class

-- "Words used": a word is not used, any number, a variable, or a child of a class
pub data Slot : Type 0 where
  unused any var : Slot
  child : Class → Slot

-- a row of 01's table: the class of a kind, and what its words p, q, r are
pub record Row : Type 0 where
  pub class : Class
  pub p : Slot
  pub q : Slot
  pub r : Slot

abbrev pub row : Class → Slot → Slot → Slot → Row
row c p q r = record { class = c; p = p; q = q; r = r }

unfoldable pub row_of : Kind → Row
row_of number = row arithmetic any unused unused
row_of variable = row arithmetic var unused unused
row_of (binary o) = row arithmetic (child arithmetic) (child arithmetic) unused
row_of choose = row arithmetic (child boolean) (child arithmetic) (child arithmetic)
row_of (truth v) = row boolean unused unused unused
row_of (compare o) = row boolean (child arithmetic) (child arithmetic) unused
row_of negation = row boolean (child boolean) unused unused
row_of both = row boolean (child boolean) (child boolean) unused
row_of skip = row statement unused unused unused
row_of assign = row statement var (child arithmetic) unused
row_of sequence = row statement (child statement) (child statement) unused
row_of if = row statement (child boolean) (child statement) (child statement)
row_of while = row statement (child boolean) (child statement) unused
row_of unknown = row no_class unused unused unused

abbrev pub row_at : List ℕ → ℕ → Row
row_at t n = row_of (kind_at t n)

abbrev pub rank : Class → ℕ
rank c = elim c [ arithmetic ↦ 0 | boolean ↦ 1 | statement ↦ 2 | no_class ↦ 3 ]

-- node n is of class c
abbrev pub is_class : List ℕ → Class → ℕ → Bool
is_class t c n = eqb (rank (row_at t n).class) (rank c)

-- ---- what a node means

pub data Tree : Type 0 where
  arith : Arith → Tree
  boole : Boole → Tree
  stm : Stm → Tree
  no_tree : Tree

abbrev pub arith_of : Tree → Arith
arith_of t = elim t [ arith a ↦ a | boole b ↦ Arith.number (pos 0) | stm s ↦ Arith.number (pos 0) | no_tree ↦ Arith.number (pos 0) ]

abbrev pub boole_of : Tree → Boole
boole_of t = elim t [ arith a ↦ Boole.truth false | boole b ↦ b | stm s ↦ Boole.truth false | no_tree ↦ Boole.truth false ]

abbrev pub stm_of : Tree → Stm
stm_of t = elim t [ arith a ↦ Stm.skip | boole b ↦ Stm.skip | stm s ↦ s | no_tree ↦ Stm.skip ]

-- "Meaning": the tree of a node with the words p, q, r, given the trees of the nodes below it. A statement names its expressions by node.
unfoldable pub tree_by : Kind → ℕ → ℕ → ℕ → (ℕ → Tree) → Tree
tree_by number p q r low = arith (Arith.number (value p))
tree_by variable p q r low = arith (Arith.variable p)
tree_by (binary o) p q r low = arith (Arith.binary o (arith_of (low p)) (arith_of (low q)))
tree_by choose p q r low = arith (Arith.choose (boole_of (low p)) (arith_of (low q)) (arith_of (low r)))
tree_by (truth v) p q r low = boole (Boole.truth v)
tree_by (compare o) p q r low = boole (Boole.compare o (arith_of (low p)) (arith_of (low q)))
tree_by negation p q r low = boole (Boole.negation (boole_of (low p)))
tree_by both p q r low = boole (Boole.both (boole_of (low p)) (boole_of (low q)))
tree_by skip p q r low = stm Stm.skip
tree_by assign p q r low = stm (Stm.assign p q)
tree_by sequence p q r low = stm (Stm.seq (stm_of (low p)) (stm_of (low q)))
tree_by if p q r low = stm (Stm.if p (stm_of (low q)) (stm_of (low r)))
tree_by while p q r low = stm (Stm.while p (stm_of (low q)))
tree_by unknown p q r low = no_tree

unfoldable pub tree_at : List ℕ → ℕ → Tree
tree_at t = at no_tree (λ n low. tree_by (kind_at t n) (field t n 1) (field t n 2) (field t n 3) low)

-- what the expression nodes mean, and the statement of the whole table
unfoldable pub meaning : List ℕ → Meaning
meaning t = record { arith = λ n σ. value_in (arith_of (tree_at t n)) σ; holds = λ n σ. truth_in (boole_of (tree_at t n)) σ }

unfoldable pub program : List ℕ → Stm
program t = stm_of (tree_at t (root t))

-- ---- refusals 1 to 9

-- "table words not a multiple of 4, none, or over 4,096"
unfoldable pub whole_table : List ℕ → Bool
whole_table t = eqb (length t % 4) 0 && ltb 0 (length t) && leb (length t) 4096

-- 3, 4, 5 or 6 for one word of node n
unfoldable pub word_fault : List ℕ → ℕ → Slot → ℕ → ℕ
word_fault t n unused w = cond (eqb w 0) fine 3
word_fault t n any w = fine
word_fault t n var w = cond (ltb w 32) fine 4
word_fault t n (child c) w = cond (ltb w n) (cond (is_class t c w) fine 6) 5

-- "the lowest number at a node first"
unfoldable pub node_fault : List ℕ → ℕ → ℕ
node_fault t n =
    cond (is_class t no_class n) 2
    (min (word_fault t n (row_at t n).p (field t n 1))
    (min (word_fault t n (row_at t n).q (field t n 2)) (word_fault t n (row_at t n).r (field t n 3))))

-- the children of a node, in the order of its words
unfoldable pub child_in : Slot → ℕ → List ℕ
child_in unused w = []
child_in any w = []
child_in var w = []
child_in (child c) w = w ∷ []

unfoldable pub children : List ℕ → ℕ → List ℕ
children t n = child_in (row_at t n).p (field t n 1) ++ child_in (row_at t n).q (field t n 2) ++ child_in (row_at t n).r (field t n 3)

unfoldable pub occurs : ℕ → List ℕ → ℕ
occurs k [] = 0
occurs k (x ∷ xs) = cond (eqb k x) 1 0 + occurs k xs

-- "Every node but the root is a child exactly once (named twice by one parent counts as twice)."
unfoldable pub once_fault : List ℕ → ℕ → ℕ
once_fault t k = cond (eqb (occurs k (joined (children t) (nodes t))) 1) fine 8

-- "Depth is 1 for a node without children, otherwise one more than its deepest child"
unfoldable pub deepest : (ℕ → ℕ) → List ℕ → ℕ
deepest depth [] = 0
deepest depth (k ∷ ks) = max (depth k) (deepest depth ks)

unfoldable pub depth_at : List ℕ → ℕ → ℕ
depth_at t = at 0 (λ n low. suc (deepest low (children t n)))

-- "Numbers 2 to 6 go node by node from 0 … Otherwise the lowest number wins."
unfoldable pub table_refusal : List ℕ → Option Refusal
table_refusal t =
    refuse (not (whole_table t)) 1 0
    or_else refuse_lowest (node_fault t) (nodes t)
    or_else refuse (not (is_class t statement (root t))) 7 (root t)
    or_else refuse_lowest (once_fault t) (root t)
    or_else refuse (ltb 256 (depth_at t (root t))) 9 0

-- a table without refusal
abbrev pub Accepted : List ℕ → Type 0
Accepted t = table_refusal t ≡ none
