-- The nodes of a rule that the grammar reads from tokens in range fit their places.
use mathlib.Core.Path.{◌≡◌}
use mathlib.Core.List.{List, ◌∷◌}
use Prim.Native.Nat.{ℕ, ◌<◌}
use native.Mathlib.Omega.{arith}
use borrow.Author.Tests.{leb-true}
use lib.IntN.{pos}
use Rattle.rules.specs.Value.{word, value}
use Rattle.rules.proofs.ValueLaws.{value_word}
use Rattle.rules.specs.Expression.{Arith, Boole}
use Rattle.rules.specs.Table.{number, variable, choose, negation, both, skip, assign, sequence, if, while, binary}
use Rattle.rules.specs.Table.{truth, compare, arithmetic, boolean, statement, Slot, row_of}
use Rattle.grammar.specs.Rule.{Rule}
use Rattle.grammar.specs.Token.{Token}
use Rattle.grammar.specs.Spelling.{in_range, last_variable}
use Rattle.grammar.specs.Grammar.{Row, Statement, Ands, Part, Test, Sum, Term, Factor}
use Rattle.grammar.specs.Written.{Word, arith_node, boole_node, rule_node}
use Rattle.grammar.proofs.bytes.InRange.{AllIn, first_in, others_in}
use Rattle.grammar.proofs.table.TypedTable.{Fits, fits, FitsPlace, is_unused, is_any, is_var, is_child}
use Rattle.grammar.proofs.table.Kinds.{kind_back, arith_class, boole_class, rule_class, arithmetic_known}
use Rattle.grammar.proofs.table.Kinds.{boolean_known, statement_known}

variable_small : {x : ℕ} {ts : List Token} → AllIn (Token.variable x ∷ ts) → x < 32
unfolding in_range
variable_small {x} a = let h = leb-true x last_variable (first_in a) in omega arith

-- every number in it is the value of its own word
unfoldable mutual
  pub exact_arith : Arith → Type 0
  exact_arith (Arith.number z) = value (word z) ≡ z
  exact_arith (Arith.variable x) = Unit {0}
  exact_arith (Arith.binary o a b) = exact_arith a × exact_arith b
  exact_arith (Arith.choose b x y) = exact_boole b × exact_arith x × exact_arith y

  pub exact_boole : Boole → Type 0
  exact_boole (Boole.truth v) = Unit {0}
  exact_boole (Boole.compare o a b) = exact_arith a × exact_arith b
  exact_boole (Boole.negation b) = exact_boole b
  exact_boole (Boole.both a b) = exact_boole a × exact_boole b

unfoldable pub exact_rule : Rule → Type 0
exact_rule Rule.skip = Unit {0}
exact_rule (Rule.assign x a) = exact_arith a
exact_rule (Rule.seq s p) = exact_rule s × exact_rule p
exact_rule (Rule.if b p q) = exact_boole b × exact_rule p × exact_rule q
exact_rule (Rule.while b p) = exact_boole b × exact_rule p

number_exact : {k : ℕ} {ts : List Token} → AllIn (Token.number k ∷ ts) → value (word (pos k)) ≡ pos k
unfolding in_range
number_exact {k} a = let h = leb-true k 2147483647 (first_in a) in value_word (pos k) (record { sfits = omega arith })

pub record RuleFits (p : Rule) (us : List Token) : Type 0 where
  pub fitted : Fits (rule_node p)
  pub exact : exact_rule p
  pub after : AllIn us

record BooleFits (b : Boole) (us : List Token) : Type 0 where
  fitted : Fits (boole_node b)
  exact : exact_boole b
  after : AllIn us

record ArithFits (a : Arith) (us : List Token) : Type 0 where
  fitted : Fits (arith_node a)
  exact : exact_arith a
  after : AllIn us

rule_child : {p : Rule} {us : List Token} → RuleFits p us → FitsPlace (Slot.child statement) (Word.child (rule_node p))
rule_child {p} x = is_child x.fitted (rule_class p)

boole_child : {b : Boole} {us : List Token} → BooleFits b us → FitsPlace (Slot.child boolean) (Word.child (boole_node b))
boole_child {b} x = is_child x.fitted (boole_class b)

arith_child : {a : Arith} {us : List Token}
    → ArithFits a us → FitsPlace (Slot.child arithmetic) (Word.child (arith_node a))
arith_child {a} x = is_child x.fitted (arith_class a)

mutual
  unfolding arith_node boole_node rule_node row_of exact_arith exact_boole exact_rule

  pub row_fits : {n : ℕ} {ts us : List Token} {p : Rule} → Row n ts us p → AllIn ts → RuleFits p us
  row_fits (Row.last d) a = statement_fits d a
  row_fits (Row.more d e) a =
      let x = statement_fits d a in
      let y = row_fits e (others_in x.after) in
      record {
        fitted = fits (kind_back sequence) statement_known (rule_child x) (rule_child y) is_unused;
        exact = (x.exact, y.exact);
        after = y.after;
      }

  statement_fits : {n : ℕ} {ts us : List Token} {p : Rule} → Statement n ts us p → AllIn ts → RuleFits p us
  statement_fits Statement.skips a =
      record {
        fitted = fits (kind_back skip) statement_known is_unused is_unused is_unused;
        exact = tt;
        after = others_in a;
      }
  statement_fits (Statement.assigns d) a =
      let x = sum_fits d (others_in (others_in a)) in
      record {
        fitted = fits (kind_back assign) statement_known (is_var (variable_small a)) (arith_child x) is_unused;
        exact = x.exact;
        after = x.after;
      }
  statement_fits (Statement.ifs b p q) a =
      let x = ands_fits b (others_in a) in
      let y = row_fits p (others_in x.after) in
      let z = row_fits q (others_in y.after) in
      record {
        fitted = fits (kind_back if) statement_known (boole_child x) (rule_child y) (rule_child z);
        exact = (x.exact, y.exact, z.exact);
        after = others_in z.after;
      }
  statement_fits (Statement.whiles b p) a =
      let x = ands_fits b (others_in a) in
      let y = row_fits p (others_in x.after) in
      record {
        fitted = fits (kind_back while) statement_known (boole_child x) (rule_child y) is_unused;
        exact = (x.exact, y.exact);
        after = others_in y.after;
      }

  ands_fits : {n : ℕ} {ts us : List Token} {b : Boole} → Ands n ts us b → AllIn ts → BooleFits b us
  ands_fits (Ands.part d) a = part_fits d a
  ands_fits (Ands.ands d e) a =
      let x = ands_fits d a in
      let y = part_fits e (others_in x.after) in
      record {
        fitted = fits (kind_back both) boolean_known (boole_child x) (boole_child y) is_unused;
        exact = (x.exact, y.exact);
        after = y.after;
      }

  part_fits : {n : ℕ} {ts us : List Token} {b : Boole} → Part n ts us b → AllIn ts → BooleFits b us
  part_fits (Part.test d) a = test_fits d a
  part_fits (Part.nots d) a =
      let x = test_fits d (others_in a) in
      record {
        fitted = fits (kind_back negation) boolean_known (boole_child x) is_unused is_unused;
        exact = x.exact;
        after = x.after;
      }

  test_fits : {n : ℕ} {ts us : List Token} {b : Boole} → Test n ts us b → AllIn ts → BooleFits b us
  test_fits (Test.truths {v = v}) a =
      record {
        fitted = fits (kind_back (truth v)) boolean_known is_unused is_unused is_unused;
        exact = tt;
        after = others_in a;
      }
  test_fits (Test.compares {o = o} d e) a =
      let x = sum_fits d a in
      let y = sum_fits e (others_in x.after) in
      record {
        fitted = fits (kind_back (compare o)) boolean_known (arith_child x) (arith_child y) is_unused;
        exact = (x.exact, y.exact);
        after = y.after;
      }
  test_fits (Test.squares d) a = let x = ands_fits d (others_in a) in record { fitted = x.fitted; exact = x.exact; after = others_in x.after }

  sum_fits : {n : ℕ} {ts us : List Token} {b : Arith} → Sum n ts us b → AllIn ts → ArithFits b us
  sum_fits (Sum.term d) a = term_fits d a
  sum_fits (Sum.sums {o = o} i d e) a =
      let x = sum_fits d a in
      let y = term_fits e (others_in x.after) in
      record {
        fitted = fits (kind_back (binary o)) arithmetic_known (arith_child x) (arith_child y) is_unused;
        exact = (x.exact, y.exact);
        after = y.after;
      }

  term_fits : {n : ℕ} {ts us : List Token} {b : Arith} → Term n ts us b → AllIn ts → ArithFits b us
  term_fits (Term.factor d) a = factor_fits d a
  term_fits (Term.products {o = o} i d e) a =
      let x = term_fits d a in
      let y = factor_fits e (others_in x.after) in
      record {
        fitted = fits (kind_back (binary o)) arithmetic_known (arith_child x) (arith_child y) is_unused;
        exact = (x.exact, y.exact);
        after = y.after;
      }

  factor_fits : {n : ℕ} {ts us : List Token} {b : Arith} → Factor n ts us b → AllIn ts → ArithFits b us
  factor_fits Factor.numbers a =
      record {
        fitted = fits (kind_back number) arithmetic_known is_any is_unused is_unused;
        exact = number_exact a;
        after = others_in a;
      }
  factor_fits Factor.variables a =
      record {
        fitted = fits (kind_back variable) arithmetic_known (is_var (variable_small a)) is_unused is_unused;
        exact = tt;
        after = others_in a;
      }
  factor_fits (Factor.brackets d) a = let x = sum_fits d (others_in a) in record { fitted = x.fitted; exact = x.exact; after = others_in x.after }
  factor_fits (Factor.chooses b d e) a =
      let x = ands_fits b (others_in (others_in a)) in
      let y = sum_fits d (others_in x.after) in
      let z = sum_fits e (others_in y.after) in
      record {
        fitted = fits (kind_back choose) arithmetic_known (boole_child x) (arith_child y) (arith_child z);
        exact = (x.exact, y.exact, z.exact);
        after = others_in z.after;
      }
