-- A node's depth by its children's, and a bound on it by the node's number.
use mathlib.Core.Path.{◌≡◌, refl, ap, sym, ◌∙◌}
use mathlib.Core.Bool.{Bool, true, false}
use mathlib.Core.List.{List, [], ◌∷◌}
use Prim.Native.Nat.{ℕ, zero, suc, ◌<◌, ◌≤◌, max}
use native.Mathlib.Omega.{arith}
use lib.Dec.{eqb, ltb, leb}
use borrow.Author.Tests.{eqb-true, eq-eqb, ltb-true, ltb-false, leb-true, leb-false}
use Rattle.rules.specs.Table.{nodes, children, occurs, deepest, depth_at}
use Rattle.rules.proofs.Bound.{occurs_none}
use Rattle.rules.proofs.ListLaws.{Below}
use Rattle.rules.proofs.TableLaws.{NodeFits, node_fits, children_below, depth_at_lem}
use Rattle.table.specs.inside.Steps.{Sound}

deepest_named : (f : ℕ → ℕ) (k : ℕ) (ks : List ℕ) → 0 < occurs k ks → f k ≤ deepest f ks
unfolding deepest occurs
deepest_named f k [] h = absurd (omega arith)
deepest_named f k (x ∷ ks) h = by (eqb k x) refl (deepest_named f k ks)
  where
    by : (same : Bool) → eqb k x ≡ same → (0 < occurs k ks → f k ≤ deepest f ks) → f k ≤ max (f x) (deepest f ks)
    by true e later = omega (arith, ap f (eqb-true k x e))
    by false e later = omega (arith, later (omega (arith, rw e at h)))

-- one of the deepest
deepest_some : (f : ℕ → ℕ) (ks : List ℕ) → 0 < deepest f ks → (k : ℕ) × (0 < occurs k ks) × (f k ≡ deepest f ks)
unfolding deepest occurs
deepest_some f [] h = absurd (omega arith)
deepest_some f (x ∷ ks) h = by (leb (deepest f ks) (f x)) refl (deepest_some f ks)
  where
    by : (first : Bool) → leb (deepest f ks) (f x) ≡ first → (0 < deepest f ks → (k : ℕ) × (0 < occurs k ks) × (f k ≡ deepest f ks))
        → (k : ℕ) × (0 < occurs k (x ∷ ks)) × (f k ≡ max (f x) (deepest f ks))
    by true e later = (x, rw (eq-eqb x x refl) (omega arith), omega (arith, leb-true (deepest f ks) (f x) e))
    by false e later =
        let lower = leb-false (deepest f ks) (f x) e in
        let found = later (omega (arith, lower)) in
        (found.0, omega (arith, found.1), found.2 ∙ omega (arith, lower))

deepest_below : (f : ℕ → ℕ) (b : ℕ) (xs : List ℕ) → Below b xs → ((x : ℕ) → x < b → f x ≤ b) → deepest f xs ≤ b
unfolding deepest
deepest_below f b [] l h = omega arith
deepest_below f b (x ∷ xs) l h = omega (arith, h x l.0, deepest_below f b xs l.1 h)

module _ (t : List ℕ) (sound : Sound t) where
  pub fits : (n : ℕ) → n < nodes t → NodeFits t n
  fits n h = node_fits t n (sound n h)

  low : (n : ℕ) → n < nodes t → Below n (children t n)
  low n h = children_below t n (fits n h)

  pub depth_some : (n : ℕ) → n < nodes t → 0 < depth_at t n
  depth_some n h = omega (arith, depth_at_lem t n (low n h))

  pub child_below : (n k : ℕ) → n < nodes t → 0 < occurs k (children t n) → k < n
  child_below n k h c = by (ltb k n) refl
    where
      by : (b : Bool) → ltb k n ≡ b → k < n
      by true e = ltb-true k n e
      by false e = absurd (omega (arith, occurs_none n k (children t n) (low n h) (ltb-false k n e), c))

  pub child_less_deep : (n k : ℕ) → n < nodes t → 0 < occurs k (children t n) → depth_at t k < depth_at t n
  child_less_deep n k h c = omega (arith, depth_at_lem t n (low n h), deepest_named (depth_at t) k (children t n) c)

  pub deepest_child : (n : ℕ) → n < nodes t → 1 < depth_at t n
      → (k : ℕ) × (0 < occurs k (children t n)) × (suc (depth_at t k) ≡ depth_at t n)
  deepest_child n h d =
      let found = deepest_some (depth_at t) (children t n) (omega (arith, depth_at_lem t n (low n h))) in
      (found.0, found.1, ap suc found.2 ∙ sym (depth_at_lem t n (low n h)))

  -- a node is at most one deeper than its number
  pub depth_most : (n : ℕ) → n < nodes t → depth_at t n ≤ suc n
  depth_most n h = within (suc n) n (omega arith) h
    where
      within : (m n : ℕ) → n < m → n < nodes t → depth_at t n ≤ suc n
      within zero n l h = absurd (omega arith)
      within (suc m) n l h =
          let lower : (x : ℕ) → x < n → depth_at t x ≤ n = λ x g. let d = within m x (omega arith) (omega arith) in omega arith in
          omega (arith, depth_at_lem t n (low n h), deepest_below (depth_at t) n (children t n) (low n h) lower)
