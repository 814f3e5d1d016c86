-- The theory of tables: what acceptance gives, node by node, and what the tree of an accepted node is in terms of its children.
use mathlib.Core.Path.{◌≡◌, refl, ap, ap₂, ◌∙◌}
use mathlib.Core.Bool.{Bool, true, false, not, cond}
use mathlib.Core.List.{List, [], ◌∷◌, ◌++◌}
use Prim.Native.Nat.{ℕ, suc, ◌*◌, ◌%◌, ◌<◌, ◌≤◌, min, max}
use native.Mathlib.Omega.{arith}
use lib.Dec.{eqb, ltb, leb, lit≤}
use lib.ListN.{length}
use borrow.Author.Tests.{eqb-true, eqb-false, eq-eqb, ne_eqb, ltb-true, ltb-false, lt-ltb, le-ltb, leb-true, le-leb, not-false}
use Rattle.rules.specs.Lists.{joined}
use Rattle.rules.specs.Table.{field, nodes, root, kind_at, row_of, row_at, rank, is_class, Accepted}
use Rattle.rules.specs.Table.{Kind, number, variable, choose, negation, both, skip, assign, sequence, if, while, unknown, binary, truth, compare}
use Rattle.rules.specs.Table.{Class, statement, no_class, Slot, unused, any, var, child}
use Rattle.rules.specs.Table.{Tree, tree_by, tree_at, stm_of, child_in, children, occurs, deepest, depth_at}
use Rattle.rules.specs.Table.{whole_table, word_fault, node_fault, once_fault, table_refusal}
use Rattle.rules.specs.Refusal.{fine, refuse, refuse_lowest, ◌or_else◌}
use Rattle.rules.proofs.ListLaws.{and_true, refuse_none, or_else_none, refuse_lowest_none, none_refuse_lowest}
use Rattle.rules.proofs.ListLaws.{at_is, below_is, Below, below_append}
use Rattle.rules.proofs.KindLaws.{rank_is}

-- ---- what a node's words are

-- a child: a node below its parent, and of the class that its place asks for
pub record Child (t : List ℕ) (n : ℕ) (c : Class) (w : ℕ) : Type 0 where
  pub below : w < n
  pub class : (row_at t w).class ≡ c

-- the word w of node n is as its place asks
abbrev pub Fills : List ℕ → ℕ → Slot → ℕ → Type 0
Fills t n unused w = w ≡ 0
Fills t n any w = Unit {0}
Fills t n var w = w < 32
Fills t n (child c) w = Child t n c w

pub record NodeFits (t : List ℕ) (n : ℕ) : Type 0 where
  pub known : (row_at t n).class ≡ no_class → ⊥
  pub p : Fills t n (row_at t n).p (field t n 1)
  pub q : Fills t n (row_at t n).q (field t n 2)
  pub r : Fills t n (row_at t n).r (field t n 3)

module _ (t : List ℕ) where
  pub is_class_lem : (c : Class) (n : ℕ) → is_class t c n ≡ true → (row_at t n).class ≡ c
  is_class_lem c n e = rank_is _ c (eqb-true _ _ e)

  pub class_is : (c : Class) (n : ℕ) → (row_at t n).class ≡ c → is_class t c n ≡ true
  class_is c n e = eq-eqb _ _ (ap rank e)

-- a fault that is chosen: `fine` only on the side that is, and at most `fine` where both sides are
picked : (b : Bool) (x y : ℕ) → y < fine → cond b x y ≡ fine → (b ≡ true) × (x ≡ fine)
picked true x y h e = (refl, e)
picked false x y h e = absurd (omega arith)

most : (b : Bool) (x y : ℕ) → x ≤ fine → y ≤ fine → cond b x y ≤ fine
most true x y h g = h
most false x y h g = g

module _ (t : List ℕ) (n : ℕ) where
  pub word_most : (s : Slot) (w : ℕ) → word_fault t n s w ≤ fine
  unfolding word_fault
  word_most unused w = most (eqb w 0) fine 3 (lit≤ tt) (lit≤ tt)
  word_most any w = lit≤ tt
  word_most var w = most (ltb w 32) fine 4 (lit≤ tt) (lit≤ tt)
  word_most (child c) w = most (ltb w n) (cond (is_class t c w) fine 6) 5 (most (is_class t c w) fine 6 (lit≤ tt) (lit≤ tt)) (lit≤ tt)

  pub word_fills : (s : Slot) (w : ℕ) → word_fault t n s w ≡ fine → Fills t n s w
  unfolding word_fault
  word_fills unused w e = eqb-true w 0 (picked _ fine 3 (lit≤ tt) e).0
  word_fills any w e = tt
  word_fills var w e = ltb-true w 32 (picked _ fine 4 (lit≤ tt) e).0
  word_fills (child c) w e =
      let g = picked (ltb w n) (cond (is_class t c w) fine 6) 5 (lit≤ tt) e in
      record { below = ltb-true w n g.0; class = is_class_lem t c w (picked (is_class t c w) fine 6 (lit≤ tt) g.1).0 }

  pub fills_word : (s : Slot) (w : ℕ) → Fills t n s w → word_fault t n s w ≡ fine
  unfolding word_fault
  fills_word unused w h = rw (eq-eqb w 0 h)
  fills_word any w h = refl
  fills_word var w h = rw (lt-ltb w 32 h)
  fills_word (child c) w h = rw (lt-ltb w n h.below, class_is t c w h.class)

  pub node_fits : node_fault t n ≡ fine → NodeFits t n
  unfolding node_fault
  node_fits e = go (is_class t no_class n) refl e
    where
      least : (a b c : ℕ) → a ≤ fine → b ≤ fine → c ≤ fine → min a (min b c) ≡ fine → (a ≡ fine) × (b ≡ fine) × (c ≡ fine)
      least a b c x y z e = (omega arith, omega arith, omega arith)

      go : (b : Bool) → is_class t no_class n ≡ b
          → cond b 2
          (min (word_fault t n (row_at t n).p (field t n 1))
          (min (word_fault t n (row_at t n).q (field t n 2)) (word_fault t n (row_at t n).r (field t n 3))))
          ≡ fine
          → NodeFits t n
      go true f e = absurd (omega arith)
      go false f e =
          let g = least _ _ _ (word_most (row_at t n).p (field t n 1)) (word_most (row_at t n).q (field t n 2)) (word_most (row_at t n).r (field t n 3)) e in
          record {
            known = λ k. eqb-false _ _ f (ap rank k);
            p = word_fills (row_at t n).p (field t n 1) g.0;
            q = word_fills (row_at t n).q (field t n 2) g.1;
            r = word_fills (row_at t n).r (field t n 3) g.2;
          }

  pub fits_node : NodeFits t n → node_fault t n ≡ fine
  unfolding node_fault
  fits_node f =
      rw (ne_eqb (rank (row_at t n).class) 3 (λ e. f.known (rank_is _ no_class e)))
      (rw (fills_word (row_at t n).p (field t n 1) f.p, fills_word (row_at t n).q (field t n 2) f.q)
      (rw (fills_word (row_at t n).r (field t n 3) f.r)))

-- ---- a node by the nodes below it

child_below : (t : List ℕ) (n : ℕ) (s : Slot) (w : ℕ) → Fills t n s w → Below n (child_in s w)
unfolding child_in
child_below t n unused w h = tt
child_below t n any w h = tt
child_below t n var w h = tt
child_below t n (child c) w h = (h.below, tt)

module _ (t : List ℕ) (n : ℕ) where
  pub children_below : NodeFits t n → Below n (children t n)
  unfolding children
  children_below f =
      let ps = child_in (row_at t n).p (field t n 1) in
      let qs = child_in (row_at t n).q (field t n 2) in
      let rs = child_in (row_at t n).r (field t n 3) in
      below_append n (ps ++ qs) rs
      (below_append n ps qs (child_below t n (row_at t n).p (field t n 1) f.p) (child_below t n (row_at t n).q (field t n 2) f.q))
      (child_below t n (row_at t n).r (field t n 3) f.r)

  deepest_same : (f g : ℕ → ℕ) (xs : List ℕ) → Below n xs → ((x : ℕ) → x < n → f x ≡ g x) → deepest f xs ≡ deepest g xs
  unfolding deepest
  deepest_same f g [] l e = refl
  deepest_same f g (x ∷ xs) l e = ap₂ max (e x l.0) (deepest_same f g xs l.1 e)

  pub depth_at_lem : Below n (children t n) → depth_at t n ≡ suc (deepest (depth_at t) (children t n))
  unfolding depth_at
  depth_at_lem l = at_is 0 _ n ∙ ap suc (deepest_same _ _ (children t n) l (λ x h. below_is 0 _ n x h))

  -- a node's tree asks only for its children's
  tree_same : (k : Kind) (p q r : ℕ) (low high : ℕ → Tree) → ((x : ℕ) → x < n → low x ≡ high x)
      → Fills t n (row_of k).p p → Fills t n (row_of k).q q → Fills t n (row_of k).r r → tree_by k p q r low ≡ tree_by k p q r high
  unfolding row_of tree_by
  tree_same number p q r low high e a b c = refl
  tree_same variable p q r low high e a b c = refl
  tree_same (binary o) p q r low high e a b c = rw (e p a.below, e q b.below)
  tree_same choose p q r low high e a b c = rw (e p a.below, e q b.below, e r c.below)
  tree_same (truth v) p q r low high e a b c = refl
  tree_same (compare o) p q r low high e a b c = rw (e p a.below, e q b.below)
  tree_same negation p q r low high e a b c = rw (e p a.below)
  tree_same both p q r low high e a b c = rw (e p a.below, e q b.below)
  tree_same skip p q r low high e a b c = refl
  tree_same assign p q r low high e a b c = refl
  tree_same sequence p q r low high e a b c = rw (e p a.below, e q b.below)
  tree_same if p q r low high e a b c = rw (e q b.below, e r c.below)
  tree_same while p q r low high e a b c = rw (e q b.below)
  tree_same unknown p q r low high e a b c = refl

  pub tree_at_lem : NodeFits t n → tree_at t n ≡ tree_by (kind_at t n) (field t n 1) (field t n 2) (field t n 3) (tree_at t)
  unfolding tree_at
  tree_at_lem f = at_is Tree.no_tree _ n ∙ tree_same (kind_at t n) _ _ _ _ _ (λ x h. below_is Tree.no_tree _ n x h) f.p f.q f.r

-- ---- what acceptance gives

pub record Facts (t : List ℕ) : Type 0 where
  pub whole : 4 * nodes t ≡ length t
  pub some_nodes : 0 < nodes t
  pub few : nodes t ≤ 1024
  pub node : (n : ℕ) → n < nodes t → NodeFits t n
  pub root_statement : (row_at t (root t)).class ≡ statement
  pub once : (k : ℕ) → k < root t → occurs k (joined (children t) (nodes t)) ≡ 1
  pub shallow : depth_at t (root t) ≤ 256

module _ (t : List ℕ) where
  pub whole_table_lem : whole_table t ≡ true → (4 * nodes t ≡ length t) × (0 < nodes t) × (nodes t ≤ 1024)
  unfolding whole_table
  whole_table_lem e =
      let a = and_true _ (leb (length t) 4096) e in
      let b = and_true (eqb (length t % 4) 0) (ltb 0 (length t)) a.0 in
      let x : length t % 4 ≡ 0 = eqb-true _ _ b.0 in
      let y : 0 < length t = ltb-true _ _ b.1 in
      let z : length t ≤ 4096 = leb-true _ _ a.1 in
      (omega arith, omega arith, omega arith)

  pub table_whole : 4 * nodes t ≡ length t → 0 < nodes t → nodes t ≤ 1024 → whole_table t ≡ true
  unfolding whole_table
  table_whole w s f = rw (eq-eqb (length t % 4) 0 (omega arith), lt-ltb 0 (length t) (omega arith), le-leb (length t) 4096 (omega arith))

  pub once_fine : (k : ℕ) → once_fault t k ≡ fine → occurs k (joined (children t) (nodes t)) ≡ 1
  unfolding once_fault
  once_fine k e = eqb-true _ _ (picked (eqb (occurs k (joined (children t) (nodes t))) 1) fine 8 (lit≤ tt) e).0

  pub fine_once : (k : ℕ) → occurs k (joined (children t) (nodes t)) ≡ 1 → once_fault t k ≡ fine
  unfolding once_fault
  fine_once k e = rw e

  pub accepted_facts : Accepted t → Facts t
  unfolding table_refusal
  accepted_facts e =
      let a = or_else_none (refuse (not (whole_table t)) 1 0) _ e in
      let b = or_else_none (refuse_lowest (node_fault t) (nodes t)) _ a.1 in
      let c = or_else_none (refuse (not (is_class t statement (root t))) 7 (root t)) _ b.1 in
      let d = or_else_none (refuse_lowest (once_fault t) (root t)) _ c.1 in
      let w = whole_table_lem (not-false _ (refuse_none _ 1 0 a.0)) in
      record {
        whole = w.0;
        some_nodes = w.1;
        few = w.2;
        node = λ n h. node_fits t n (refuse_lowest_none (node_fault t) (nodes t) b.0 n h);
        root_statement = is_class_lem t statement (root t) (not-false _ (refuse_none _ 7 (root t) c.0));
        once = λ k h. once_fine k (refuse_lowest_none (once_fault t) (root t) d.0 k h);
        shallow = ltb-false _ _ (refuse_none _ 9 0 d.1);
      }

  pub facts_accepted : Facts t → Accepted t
  unfolding table_refusal ◌or_else◌ refuse
  facts_accepted f =
      rw (table_whole f.whole f.some_nodes f.few)
      (rw (none_refuse_lowest (node_fault t) (nodes t) (λ n h. fits_node t n (f.node n h)))
      (rw (class_is t statement (root t) f.root_statement)
      (rw (none_refuse_lowest (once_fault t) (root t) (λ k h. fine_once k (f.once k h)))
      (rw (le-ltb 256 (depth_at t (root t)) f.shallow)))))

-- ---- a node read by its kind

-- Node n is of kind k, its words are p, q, r, and its tree is that of the kind over its children's trees. Where k is known, say
-- `choose`, `unfolding treeBy row_of` makes `tree` the equation of 01's "Meaning", and the rest what is known of each word.
pub record NodeAs (t : List ℕ) (n : ℕ) (k : Kind) (p q r : ℕ) : Type 0 where
  pub kind : kind_at t n ≡ k
  pub tree : tree_at t n ≡ tree_by k p q r (tree_at t)
  pub first : Fills t n (row_of k).p p
  pub second : Fills t n (row_of k).q q
  pub third : Fills t n (row_of k).r r

module _ {t : List ℕ} {n : ℕ} where
  pub node_as : NodeFits t n → (k : Kind) → kind_at t n ≡ k → NodeAs t n k (field t n 1) (field t n 2) (field t n 3)
  node_as f k e = rw (← e) (record { kind = refl; tree = tree_at_lem t n f; first = f.p; second = f.q; third = f.r })

  pub stm_as : {k : Kind} {p q r : ℕ} → NodeAs t n k p q r → stm_of (tree_at t n) ≡ stm_of (tree_by k p q r (tree_at t))
  stm_as v = ap stm_of v.tree
