-- The table of a text in the grammar is refused 1 for its size or 9 for its depth, and nothing else.
use mathlib.Core.Path.{◌≡◌, refl, sym, ap, ◌∙◌}
use mathlib.Core.Bool.{Bool, true, false, not, ◌&&◌}
use mathlib.Core.List.{List, [], ◌∷◌, ◌++◌}
use Prim.Native.Nat.{ℕ, suc, ◌+◌, ◌-◌, ◌*◌, ◌%◌, ◌<◌, ◌≤◌, max}
use native.Mathlib.Omega.{arith}
use lib.Dec.{eqb, ltb}
use lib.ListN.{length}
use borrow.Author.Tests.{ltb-true, ltb-false, lt-leb}
use Rattle.rules.specs.Lists.{joined}
use Rattle.rules.specs.Refusal.{refuse, ◌or_else◌}
use Rattle.rules.specs.Table.{Kind, kind_of, statement, Slot, Row, row_of, row_at, nodes, root, child_in, children}
use Rattle.rules.specs.Table.{occurs, deepest, depth_at, whole_table, node_fault, once_fault, table_refusal}
use Rattle.rules.proofs.ListLaws.{none_refuse_lowest}
use Rattle.rules.proofs.TableLaws.{NodeFits, fits_node, class_is, children_below, depth_at_lem, table_whole, fine_once}
use Rattle.grammar.specs.Rule.{Rule}
use Rattle.grammar.specs.Layout.{InGrammar}
use Rattle.grammar.specs.Written.{Node, Word, kind_number, rule_node, size, size_below, depth, depth_below, word_at}
use Rattle.grammar.specs.Written.{written, table_of}
use Rattle.grammar.proofs.bytes.InRange.{laid_in}
use Rattle.grammar.proofs.table.Stands.{Words, Stands, stands, StandsBelow, nothing_below, below}
use Rattle.grammar.proofs.table.Stands.{length_written, written_stands}
use Rattle.grammar.proofs.table.TypedTable.{kind_in, Fits, fits, FitsPlace, is_unused, is_any, is_var, is_child}
use Rattle.grammar.proofs.table.TypedTable.{nodes_fit, named_once, kind_there, size_some}
use Rattle.grammar.proofs.table.Kinds.{rule_class}
use Rattle.grammar.proofs.table.TypedNodes.{row_fits}

-- ---- depth

deepest_append : (f : ℕ → ℕ) (xs ys : List ℕ) → deepest f (xs ++ ys) ≡ max (deepest f xs) (deepest f ys)
unfolding deepest
deepest_append f [] ys = omega arith
deepest_append f (x ∷ xs) ys = let r = deepest_append f xs ys in omega arith

deepest_of : {a b c x y z : ℕ} → a ≡ x → b ≡ y → c ≡ z → suc (max (max a b) c) ≡ suc (max (max x y) z)
deepest_of e f g = rw (e, f, g)

module _ (t : List ℕ) where
  top_depth : (m : ℕ) {n : Kind} {p q r : ℕ} → NodeFits t m → Words t m (kind_number n) p q r → kind_of (kind_number n) ≡ n
      → depth_at t m ≡ suc (max (max (deepest (depth_at t) (child_in (row_of n).p p)) (deepest (depth_at t) (child_in (row_of n).q q)))
      (deepest (depth_at t) (child_in (row_of n).r r)))
  unfolding children
  top_depth m {n} {p} {q} {r} f w e =
      let i : row_at t m ≡ row_of n = ap row_of (ap kind_of (sym w.is_kind) ∙ e) in
      let A : List ℕ = child_in (row_of n).p p in
      let B : List ℕ = child_in (row_of n).q q in
      let C : List ℕ = child_in (row_of n).r r in
      let c = deepest_append (depth_at t) (A ++ B) C in
      let b = deepest_append (depth_at t) A B in
      let same : children t m ≡ A ++ B ++ C = rw (i, ← w.is_p, ← w.is_q, ← w.is_r) in
      depth_at_lem t m (children_below t m f) ∙ ap (λ (l : List ℕ). suc (deepest (depth_at t) l)) same
      ∙ ap suc (c ∙ ap (λ (x : ℕ). max x (deepest (depth_at t) C)) b)

  mutual
    unfolding size size_below depth depth_below child_in word_at deepest

    deep : {at : ℕ} {n : Node} → Stands t at n → Fits n → ((i : ℕ) → at ≤ i → i < at + size n → NodeFits t i)
        → depth_at t (at + size n - 1) ≡ depth n
    deep (stands {at = at} {k = k} {p = p} {q = q} {r = r} a b c w) (fits e d x y z) f =
        let top : at + (size_below p + size_below q + size_below r + 1) - 1 ≡ at + size_below p + size_below q + size_below r = omega arith in
        let f₁ = deep_below a x (λ i l h. f i (omega arith) (omega arith)) in
        let f₂ = deep_below b y (λ i l h. f i (omega arith) (omega arith)) in
        let f₃ = deep_below c z (λ i l h. f i (omega arith) (omega arith)) in
        rw top (top_depth (at + size_below p + size_below q + size_below r) (f _ (omega arith) (omega arith)) w e ∙ deepest_of f₁ f₂ f₃)

    deep_below : {at : ℕ} {w : Word} {s : Slot}
        → StandsBelow t at w → FitsPlace s w → ((i : ℕ) → at ≤ i → i < at + size_below w → NodeFits t i)
        → deepest (depth_at t) (child_in s (word_at at w)) ≡ depth_below w
    deep_below nothing_below is_unused f = refl
    deep_below nothing_below is_any f = refl
    deep_below nothing_below (is_var l) f = refl
    deep_below (below a) (is_child g e) f = let d = deep a g f in omega arith

-- ---- the refusals

too_long : (a : Bool) {b : Bool} → b ≡ false → not (a && b) ≡ true
too_long true e = rw e
too_long false e = refl

module _ (n : Node) (f : Fits n) (s : (row_of (kind_in n)).class ≡ statement) where
  abbrev table : List ℕ
  table = written 0 n

  there : Stands table 0 n
  there = written_stands n

  how_many : nodes table ≡ size n
  how_many = let l = length_written n 0 in omega arith

  every_fits : (i : ℕ) → i < size n → NodeFits table i
  every_fits i h = nodes_fit table there f i (omega arith) (omega arith)

  how_deep : depth_at table (root table) ≡ depth n
  how_deep =
      let i : root table ≡ 0 + size n - 1 = let h = how_many in omega arith in
      rw i (deep table there f (λ i l h. every_fits i (omega arith)))

  root_is : (row_at table (root table)).class ≡ statement
  root_is =
      let i : root table ≡ 0 + size n - 1 = let h = how_many in omega arith in
      rw i (ap (λ (x : Row). x.class) (kind_there table there f) ∙ s)

  once : (k : ℕ) → k < root table → occurs k (joined (children table) (nodes table)) ≡ 1
  once k h = let m = how_many in rw m (named_once table there f k (omega arith))

  whole_test : not (whole_table table) ≡ ltb 1024 (size n)
  unfolding whole_table
  whole_test = split (ltb 1024 (size n)) refl
    where
      split : (b : Bool) → ltb 1024 (size n) ≡ b → not (whole_table table) ≡ b
      split true e =
          let h : 1024 < size n = ltb-true 1024 (size n) e in
          let l = length_written n 0 in
          too_long (eqb (length table % 4) 0 && ltb 0 (length table)) (lt-leb (length table) 4096 (omega arith))
      split false e =
          let h : size n ≤ 1024 = ltb-false 1024 (size n) e in
          let l = length_written n 0 in
          let m = size_some n in
          let w : whole_table table ≡ true = table_whole table (omega arith) (omega arith) (omega arith) in
          rw w

  only_1_or_9 : table_refusal table ≡ (refuse (ltb 1024 (size n)) 1 0 or_else refuse (ltb 256 (depth n)) 9 0)
  unfolding table_refusal ◌or_else◌ refuse
  only_1_or_9 =
      let m = how_many in
      rw whole_test
      (rw (none_refuse_lowest (node_fault table) (nodes table) (λ i h. fits_node table i (every_fits i (omega arith))))
      (rw (class_is table statement (root table) root_is)
      (rw (none_refuse_lowest (once_fault table) (root table) (λ k h. fine_once table k (once k h)))
      (rw how_deep refl))))

-- "Refusals: … then 1, 9"
pub typed_refusal_lem : {text : List ℕ} {r : Rule} → InGrammar text r
    → table_refusal (table_of r) ≡ (refuse (ltb 1024 (size (rule_node r))) 1 0 or_else refuse (ltb 256 (depth (rule_node r))) 9 0)
unfolding table_of
typed_refusal_lem {r = r} g = only_1_or_9 (rule_node r) (row_fits g.2 (laid_in g.1)).fitted (rule_class r)

pub table_length : (r : Rule) → length (table_of r) ≡ 4 * size (rule_node r)
unfolding table_of
table_length r = length_written (rule_node r) 0
