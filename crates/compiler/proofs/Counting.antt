-- The instructions of a table's code, counted node by node: each node adds its own to its children's, and every node is in the
-- root's tree once.
use mathlib.Core.Path.{◌≡◌, refl, ap, sym, ◌∙◌}
use mathlib.Core.Bool.{Bool, true, false, cond}
use mathlib.Core.List.{List, ◌++◌}
use Prim.Native.Nat.{ℕ, ◌+◌, ◌*◌, ◌%◌, ◌<◌, ◌≤◌}
use lib.ListN.{length, get_or, drop, length-append, length-drop, get_or-append}
use lib.Seq.{drop_at, drop-drop, get_or-drop}
use native.Mathlib.Numerals.{add-one}
use native.Mathlib.Omega.{arith}
use lib.Dec.{eqb, ltb}
use borrow.Author.Tests.{eqb-true, ne_eqb, ltb-true, ltb-false}
use Rattle.rules.specs.Lists.{every, fetch}
use Rattle.rules.specs.While.{Stm}
use Rattle.rules.specs.Compilation.{size}
use Rattle.rules.specs.Table.{Kind, number, variable, binary, choose, truth, compare, negation, both}
use Rattle.rules.specs.Table.{skip, assign, sequence, if, while, unknown}
use Rattle.rules.specs.Table.{field, nodes, kind_of, kind_at, row_of, Class, arithmetic, boolean, statement}
use Rattle.rules.specs.Table.{Tree, tree_by, stm_of, child_in, children, program}
use Rattle.rules.proofs.ListLaws.{every_true}
use Rattle.rules.proofs.KindLaws.{kind_past}
use Rattle.rules.proofs.TableLaws.{Child, NodeAs, Facts, node_as, tree_at_lem}
use Rattle.rules.proofs.Bound.{sum, counted, over_nodes}
use Rattle.compiler.specs.inside.Writing.{stm_at, adds}

-- a node that is no statement has no code
no_statement : (k : Kind) (p q r : ℕ) (low : ℕ → Tree) → ((row_of k).class ≡ statement → ⊥) → stm_of (tree_by k p q r low) ≡ Stm.skip
unfolding row_of tree_by
no_statement number p q r low h = refl
no_statement variable p q r low h = refl
no_statement (binary o) p q r low h = refl
no_statement choose p q r low h = refl
no_statement (truth v) p q r low h = refl
no_statement (compare o) p q r low h = refl
no_statement negation p q r low h = refl
no_statement both p q r low h = refl
no_statement skip p q r low h = refl
no_statement assign p q r low h = absurd (h refl)
no_statement sequence p q r low h = absurd (h refl)
no_statement if p q r low h = absurd (h refl)
no_statement while p q r low h = absurd (h refl)
no_statement unknown p q r low h = refl

module _ (t : List ℕ) (f : Facts t) where
  abbrev size_at : ℕ → ℕ
  size_at n = size (stm_at t n)

  expression_size : {n w : ℕ} {c : Class} → n < nodes t → Child t n c w → (c ≡ statement → ⊥) → size_at w ≡ 0
  unfolding size
  expression_size {n} {w} l ch other =
      let below : w < n = ch.below in
      ap (λ (x : Tree). size (stm_of x)) (tree_at_lem t w (f.node w (omega arith)))
      ∙ ap size (no_statement (kind_at t w) _ _ _ _ (λ e. other (sym ch.class ∙ e)))

  arithmetic_size : {n w : ℕ} → n < nodes t → Child t n arithmetic w → size_at w ≡ 0
  arithmetic_size l ch = expression_size l ch (λ e. let z : ◌≡◌ {A = ℕ} 0 1 = cc in omega arith)

  boolean_size : {n w : ℕ} → n < nodes t → Child t n boolean w → size_at w ≡ 0
  boolean_size l ch = expression_size l ch (λ e. let z : ◌≡◌ {A = ℕ} 0 1 = cc in omega arith)

  size_as : (n : ℕ) (k : Kind) (p q r : ℕ) → n < nodes t → NodeAs t n k p q r
      → size_at n ≡ adds k + sum size_at (child_in (row_of k).p p ++ child_in (row_of k).q q ++ child_in (row_of k).r r)
  unfolding tree_by row_of child_in sum size adds
  size_as n number p q r l v = rw v.tree refl
  size_as n variable p q r l v = rw v.tree refl
  size_as n (binary o) p q r l v = rw v.tree (omega (arith, arithmetic_size l v.first, arithmetic_size l v.second))
  size_as n choose p q r l v =
      rw v.tree (omega (arith, boolean_size l v.first, arithmetic_size l v.second, arithmetic_size l v.third))
  size_as n (truth b) p q r l v = rw v.tree refl
  size_as n (compare o) p q r l v = rw v.tree (omega (arith, arithmetic_size l v.first, arithmetic_size l v.second))
  size_as n negation p q r l v = rw v.tree (omega (arith, boolean_size l v.first))
  size_as n both p q r l v = rw v.tree (omega (arith, boolean_size l v.first, boolean_size l v.second))
  size_as n skip p q r l v = rw v.tree refl
  size_as n assign p q r l v = rw v.tree (omega (arith, arithmetic_size l v.second))
  size_as n sequence p q r l v = rw v.tree (omega arith)
  size_as n if p q r l v = rw v.tree (omega (arith, boolean_size l v.first))
  size_as n while p q r l v = rw v.tree (omega (arith, boolean_size l v.first))
  size_as n unknown p q r l v = rw v.tree refl

  -- the instructions of the whole code are those that the nodes add
  pub counted_size : counted (λ n. adds (kind_at t n)) (nodes t) ≡ size (program t)
  unfolding program children
  counted_size =
      sym (over_nodes t f size_at (λ n. adds (kind_at t n))
      (λ n l. size_as n (kind_at t n) (field t n 1) (field t n 2) (field t n 3) l (node_as (f.node n l) (kind_at t n) refl)))

-- ---- what a kind adds, by its number

abbrev adds_by : ℕ → ℕ
adds_by k = cond (eqb k 33) 1 0 + cond (eqb k 35) 2 0 + cond (eqb k 36) 2 0

pub adds_by_lem : (k : ℕ) → adds_by k ≡ adds (kind_of k)
unfolding every kind_of fetch adds
adds_by_lem k = go (ltb k 37) refl
  where
    go : (s : Bool) → ltb k 37 ≡ s → adds_by k ≡ adds (kind_of k)
    go true e = eqb-true _ _ (every_true (λ k. eqb (adds_by k) (adds (kind_of k))) 37 refl k (ltb-true k 37 e))
    go false e =
        let past : 37 ≤ k = ltb-false k 37 e in
        rw (ne_eqb k 33 (λ e. omega arith), ne_eqb k 35 (λ e. omega arith), ne_eqb k 36 (λ e. omega arith), kind_past k past)

-- ---- the count on its way

-- what is left of the table are its nodes from k on, and total is what the nodes before them add
pub record SoFar (t : List ℕ) (total k : ℕ) (left : List ℕ) : Type 0 where
  pub whole : length t % 4 ≡ 0
  pub few : length t ≤ 4096
  pub inside : 4 * k ≤ length t
  pub left_is : left ≡ drop (4 * k) t
  pub sum_is : total ≡ counted (λ n. adds (kind_at t n)) k
  pub small : total ≤ 5 * k

module _ (t : List ℕ) where
  pub count_begins : Facts t → SoFar t 0 0 t
  unfolding counted
  count_begins f =
      let whole : 4 * nodes t ≡ length t = f.whole in
      let few : nodes t ≤ 1024 = f.few in
      record { whole = omega arith; few = omega arith; inside = omega arith; left_is = refl; sum_is = refl; small = omega arith }

  pub count_goes_on : {total k a : ℕ} {left behind : List ℕ} (node : List ℕ) → SoFar t total k left → left ≡ node ++ behind → length node ≡ 4
      → a ≡ adds (kind_of (get_or node 0 0)) → a ≤ 5 → SoFar t (total + a) (k + 1) behind
  unfolding counted
  count_goes_on {total} {k} {a} {left} {behind} node s e long is_a h =
      let cut : drop (4 * k) t ≡ node ++ behind = sym s.left_is ∙ e in
      let enough : 4 ≤ length (drop (4 * k) t) = rw (cut, length-append) (omega arith) in
      let kind : get_or node 0 0 ≡ field t k 0 =
      sym (get_or-append node behind 0 0 (omega arith)) ∙ ap (λ (l : List ℕ). get_or l 0 0) (sym cut) ∙ get_or-drop (4 * k) t 0 0 in
      record {
        whole = s.whole;
        few = s.few;
        inside = omega (arith, enough, length-drop (4 * k) t);
        left_is = sym (drop_at node behind 4 long) ∙ ap (drop 4) (sym cut) ∙ drop-drop 4 (4 * k) t ∙ ap (λ (j : ℕ). drop j t) (omega arith);
        sum_is = rw (add-one, ← kind) (omega (arith, s.sum_is));
        small = omega arith;
      }

  pub count_ends : {total k : ℕ} {left : List ℕ} → Facts t → SoFar t total k left → length left < 4 → total ≡ size (program t)
  count_ends {total} {k} f s l =
      let short : length (drop (4 * k) t) < 4 = rw (← s.left_is) l in
      let all : k ≡ nodes t = omega (arith, short, length-drop (4 * k) t, s.whole, s.inside) in
      s.sum_is ∙ ap (counted (λ n. adds (kind_at t n))) all ∙ counted_size t f
