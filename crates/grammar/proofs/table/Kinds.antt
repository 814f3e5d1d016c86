-- The kinds that are written: each is read back from its number, and the nodes of a rule have the classes that 01 gives their kinds.
use mathlib.Core.Path.{◌≡◌, refl}
use mathlib.Core.Bool.{true, false}
use Prim.Native.Nat.{ℕ}
use native.Mathlib.Omega.{arith}
use Rattle.rules.specs.Lists.{fetch}
use Rattle.rules.specs.Expression.{Arith, Boole, plus, minus, times, over, rest, equal, at_most, less}
use Rattle.rules.specs.Table.{Kind, number, variable, choose, negation, both, skip, assign, sequence, if, while}
use Rattle.rules.specs.Table.{unknown, binary, truth, compare, kind_of, arithmetic, boolean, statement, no_class}
use Rattle.rules.specs.Table.{row_of}
use Rattle.grammar.specs.Rule.{Rule}
use Rattle.grammar.specs.Written.{arith_node, boole_node, rule_node, kind_number, operator_number, relation_number}
use Rattle.grammar.specs.Written.{truth_number}
use Rattle.grammar.proofs.table.TypedTable.{kind_in}

pub kind_back : (k : Kind) → kind_of (kind_number k) ≡ k
unfolding kind_of fetch kind_number operator_number relation_number truth_number
kind_back number = refl
kind_back variable = refl
kind_back choose = refl
kind_back negation = refl
kind_back both = refl
kind_back skip = refl
kind_back assign = refl
kind_back sequence = refl
kind_back if = refl
kind_back while = refl
kind_back unknown = refl
kind_back (binary plus) = refl
kind_back (binary minus) = refl
kind_back (binary times) = refl
kind_back (binary over) = refl
kind_back (binary rest) = refl
kind_back (truth true) = refl
kind_back (truth false) = refl
kind_back (compare equal) = refl
kind_back (compare at_most) = refl
kind_back (compare less) = refl

pub arith_class : (a : Arith) → (row_of (kind_in (arith_node a))).class ≡ arithmetic
unfolding arith_node kind_in row_of
arith_class (Arith.number z) = refl
arith_class (Arith.variable x) = refl
arith_class (Arith.binary o a b) = refl
arith_class (Arith.choose b x y) = refl

pub boole_class : (b : Boole) → (row_of (kind_in (boole_node b))).class ≡ boolean
unfolding boole_node kind_in row_of
boole_class (Boole.truth v) = refl
boole_class (Boole.compare o a b) = refl
boole_class (Boole.negation b) = refl
boole_class (Boole.both a b) = refl

pub rule_class : (p : Rule) → (row_of (kind_in (rule_node p))).class ≡ statement
unfolding rule_node kind_in row_of
rule_class Rule.skip = refl
rule_class (Rule.assign x a) = refl
rule_class (Rule.seq s p) = refl
rule_class (Rule.if b p q) = refl
rule_class (Rule.while b p) = refl

pub arithmetic_known : arithmetic ≡ no_class → ⊥
arithmetic_known e = let z : ◌≡◌ {A = ℕ} 0 1 = cc in omega arith

pub boolean_known : boolean ≡ no_class → ⊥
boolean_known e = let z : ◌≡◌ {A = ℕ} 0 1 = cc in omega arith

pub statement_known : statement ≡ no_class → ⊥
statement_known e = let z : ◌≡◌ {A = ℕ} 0 1 = cc in omega arith
