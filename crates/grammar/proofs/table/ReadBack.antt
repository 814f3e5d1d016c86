-- The table of a rule means the rule: its nodes, read back as 01 reads them, are the expressions and statements that were typed.
use mathlib.Core.Path.{◌≡◌, sym, ap, ◌∙◌}
use mathlib.Core.List.{List}
use Prim.Native.Nat.{ℕ, ◌+◌, ◌-◌, ◌≤◌, ◌<◌}
use native.Mathlib.Omega.{arith}
use Rattle.rules.specs.Expression.{Arith, Boole}
use Rattle.rules.specs.While.{Stm}
use Rattle.rules.specs.Table.{Kind}
use Rattle.rules.specs.Table.{kind_of, root, arith_of, boole_of, stm_of, tree_by, tree_at, program}
use Rattle.rules.proofs.TableLaws.{NodeFits, NodeAs, node_as, stm_as}
use Rattle.grammar.specs.Rule.{Rule}
use Rattle.grammar.specs.Layout.{InGrammar}
use Rattle.grammar.specs.Written.{node, Word, arith_node, boole_node, rule_node, size, size_below, word_at, table_of}
use Rattle.grammar.specs.Written.{written}
use Rattle.grammar.proofs.bytes.InRange.{laid_in}
use Rattle.grammar.proofs.table.Stands.{Words, Stands, stands, below, length_written, written_stands}
use Rattle.grammar.proofs.table.TypedTable.{nodes_fit}
use Rattle.grammar.proofs.table.Kinds.{kind_back}
use Rattle.grammar.proofs.table.TypedNodes.{exact_arith, exact_boole, exact_rule, row_fits}

module _ {t : List ℕ} {n : ℕ} where
  words_as : {w p q r : ℕ} → NodeFits t n → Words t n w p q r → (k : Kind) → kind_of w ≡ k → NodeAs t n k p q r
  words_as f w k e = rw (w.is_p, w.is_q, w.is_r) (node_as f k (ap kind_of (sym w.is_kind) ∙ e))

  arith_as : {k : Kind} {p q r : ℕ} → NodeAs t n k p q r → arith_of (tree_at t n) ≡ arith_of (tree_by k p q r (tree_at t))
  arith_as v = ap arith_of v.tree

  boole_as : {k : Kind} {p q r : ℕ} → NodeAs t n k p q r → boole_of (tree_at t n) ≡ boole_of (tree_by k p q r (tree_at t))
  boole_as v = ap boole_of v.tree

module _ (t : List ℕ) where
  -- the nodes from `at` on, up to `at + m`, fit
  abbrev AllFit : ℕ → ℕ → Type 0
  AllFit at m = (i : ℕ) → at ≤ i → i < at + m → NodeFits t i

  top_as : (at : ℕ) {k : Kind} {p q r : Word} → Stands t at (node k p q r) → AllFit at (size (node k p q r))
      → NodeAs t (at + size (node k p q r) - 1) k (word_at at p) (word_at (at + size_below p) q) (word_at (at + size_below p + size_below q) r)
  unfolding size
  top_as at {k} {p} {q} {r} (stands x y z w) f =
      let top : at + (size_below p + size_below q + size_below r + 1) - 1 ≡ at + size_below p + size_below q + size_below r = omega arith in
      rw top (words_as (f (at + size_below p + size_below q + size_below r) (omega arith) (omega arith)) w k (kind_back k))

  mutual
    unfolding arith_node boole_node size size_below word_at tree_by exact_arith exact_boole

    arith_back : (a : Arith) (at : ℕ) → Stands t at (arith_node a) → AllFit at (size (arith_node a)) → exact_arith a
        → arith_of (tree_at t (at + size (arith_node a) - 1)) ≡ a
    arith_back (Arith.number z) at s f e = arith_as (top_as at s f) ∙ ap Arith.number e
    arith_back (Arith.variable i) at s f e = arith_as (top_as at s f)
    arith_back (Arith.binary o a b) at (stands (below x) (below y) u w) f e =
        let i = arith_back a at x (λ i l h. f i (omega arith) (omega arith)) e.0 in
        let j = arith_back b (at + size (arith_node a)) y (λ i l h. f i (omega arith) (omega arith)) e.1 in
        arith_as (top_as at (stands (below x) (below y) u w) f) ∙ rw (i, j)
    arith_back (Arith.choose c a b) at (stands (below z) (below x) (below y) w) f e =
        let g = boole_back c at z (λ i l h. f i (omega arith) (omega arith)) e.0 in
        let i = arith_back a (at + size (boole_node c)) x (λ i l h. f i (omega arith) (omega arith)) e.1 in
        let j = arith_back b (at + size (boole_node c) + size (arith_node a)) y (λ i l h. f i (omega arith) (omega arith)) e.2 in
        arith_as (top_as at (stands (below z) (below x) (below y) w) f) ∙ rw (g, i, j)

    boole_back : (b : Boole) (at : ℕ) → Stands t at (boole_node b) → AllFit at (size (boole_node b)) → exact_boole b
        → boole_of (tree_at t (at + size (boole_node b) - 1)) ≡ b
    boole_back (Boole.truth v) at s f e = boole_as (top_as at s f)
    boole_back (Boole.compare o a b) at (stands (below x) (below y) u w) f e =
        let i = arith_back a at x (λ i l h. f i (omega arith) (omega arith)) e.0 in
        let j = arith_back b (at + size (arith_node a)) y (λ i l h. f i (omega arith) (omega arith)) e.1 in
        boole_as (top_as at (stands (below x) (below y) u w) f) ∙ rw (i, j)
    boole_back (Boole.negation b) at (stands (below x) y u w) f e =
        let i = boole_back b at x (λ i l h. f i (omega arith) (omega arith)) e in
        boole_as (top_as at (stands (below x) y u w) f) ∙ rw i
    boole_back (Boole.both a b) at (stands (below x) (below y) u w) f e =
        let i = boole_back a at x (λ i l h. f i (omega arith) (omega arith)) e.0 in
        let j = boole_back b (at + size (boole_node a)) y (λ i l h. f i (omega arith) (omega arith)) e.1 in
        boole_as (top_as at (stands (below x) (below y) u w) f) ∙ rw (i, j)

  -- ---- statements, which name their expressions by node

  pub data Says : Stm → Rule → Type 0 where
    says_skip : Says Stm.skip Rule.skip
    says_assign : {x m : ℕ} {a : Arith} → arith_of (tree_at t m) ≡ a → Says (Stm.assign x m) (Rule.assign x a)
    says_seq : {c d : Stm} {s p : Rule} → Says c s → Says d p → Says (Stm.seq c d) (Rule.seq s p)
    says_if : {m : ℕ} {c d : Stm} {b : Boole} {p q : Rule}
        → boole_of (tree_at t m) ≡ b → Says c p → Says d q → Says (Stm.if m c d) (Rule.if b p q)
    says_while : {m : ℕ} {c : Stm} {b : Boole} {p : Rule}
        → boole_of (tree_at t m) ≡ b → Says c p → Says (Stm.while m c) (Rule.while b p)

  rule_back : (r : Rule) (at : ℕ) → Stands t at (rule_node r) → AllFit at (size (rule_node r)) → exact_rule r
      → Says (stm_of (tree_at t (at + size (rule_node r) - 1))) r
  unfolding rule_node size size_below word_at tree_by exact_rule
  rule_back Rule.skip at s f e = let q = stm_as (top_as at s f) in rw q says_skip
  rule_back (Rule.assign x a) at (stands y (below z) u w) f e =
      let q = stm_as (top_as at (stands y (below z) u w) f) in
      rw q (says_assign (arith_back a (at + 0) z (λ i l h. f i (omega arith) (omega arith)) e))
  rule_back (Rule.seq s p) at (stands (below x) (below y) u w) f e =
      let q = stm_as (top_as at (stands (below x) (below y) u w) f) in
      rw q (says_seq (rule_back s at x (λ i l h. f i (omega arith) (omega arith)) e.0)
      (rule_back p (at + size (rule_node s)) y (λ i l h. f i (omega arith) (omega arith)) e.1))
  rule_back (Rule.if b p q) at (stands (below z) (below x) (below y) w) f e =
      let k = stm_as (top_as at (stands (below z) (below x) (below y) w) f) in
      rw k (says_if (boole_back b at z (λ i l h. f i (omega arith) (omega arith)) e.0)
      (rule_back p (at + size (boole_node b)) x (λ i l h. f i (omega arith) (omega arith)) e.1)
      (rule_back q (at + size (boole_node b) + size (rule_node p)) y (λ i l h. f i (omega arith) (omega arith)) e.2))
  rule_back (Rule.while b p) at (stands (below z) (below x) u w) f e =
      let k = stm_as (top_as at (stands (below z) (below x) u w) f) in
      rw k (says_while (boole_back b at z (λ i l h. f i (omega arith) (omega arith)) e.0)
      (rule_back p (at + size (boole_node b)) x (λ i l h. f i (omega arith) (omega arith)) e.1))

-- the program of the table is the rule that was typed
pub read_back : {text : List ℕ} {r : Rule} → InGrammar text r → Says (table_of r) (program (table_of r)) r
unfolding table_of program
read_back {r = r} g =
    let fit = row_fits g.2 (laid_in g.1) in
    let there = written_stands (rule_node r) in
    let l = length_written (rule_node r) 0 in
    let i : root (written 0 (rule_node r)) ≡ 0 + size (rule_node r) - 1 = omega arith in
    rw i (rule_back (written 0 (rule_node r)) r 0 there (nodes_fit (written 0 (rule_node r)) there fit.fitted) fit.exact)
