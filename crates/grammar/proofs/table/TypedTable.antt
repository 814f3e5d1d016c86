-- The table of a text in the grammar meets refusals 2 to 8 nowhere: every word fits its place, every node but the last is named once.
use mathlib.Core.Path.{◌≡◌, refl, sym, ap, ◌∙◌, subst}
use mathlib.Core.Bool.{Bool, true, false, cond}
use mathlib.Core.List.{List, [], ◌∷◌, ◌++◌}
use Prim.Native.Nat.{ℕ, suc, ◌+◌, ◌-◌, ◌<◌, ◌≤◌}
use native.Mathlib.Nat.{le_refl, add-zero}
use native.Mathlib.Omega.{arith}
use lib.Dec.{eqb, ltb}
use borrow.Author.Tests.{ltb-true, ltb-false, eqb-true, eqb-false}
use Rattle.rules.specs.Lists.{joined}
use Rattle.rules.specs.Table.{Kind, kind_of, Class, no_class, Slot, unused, any, var, Row, row_of, row_at, child_in}
use Rattle.rules.specs.Table.{children, occurs}
use Rattle.rules.proofs.TableLaws.{Fills, NodeFits}
use Rattle.rules.proofs.Bound.{occurs_append, occurs_next}
use Rattle.grammar.specs.Written.{Node, node, Word, plain, child, kind_number, size, size_below, word_at}
use Rattle.grammar.proofs.table.Stands.{Words, Stands, stands, StandsBelow, nothing_below, below}

-- ---- nodes whose words fit their places

unfoldable pub kind_in : Node → Kind
kind_in (node k p q r) = k

mutual
  pub data Fits : Node → Type 0 where
    fits : {k : Kind} {p q r : Word} → (kind_of (kind_number k) ≡ k) → ((row_of k).class ≡ no_class → ⊥)
        → FitsPlace (row_of k).p p → FitsPlace (row_of k).q q → FitsPlace (row_of k).r r → Fits (node k p q r)

  pub data FitsPlace : Slot → Word → Type 0 where
    is_unused : FitsPlace unused (plain 0)
    is_any : {w : ℕ} → FitsPlace any (plain w)
    is_var : {x : ℕ} → x < 32 → FitsPlace var (plain x)
    is_child : {c : Class} {n : Node} → Fits n → (row_of (kind_in n)).class ≡ c → FitsPlace (Slot.child c) (child n)

pub size_some : (n : Node) → 1 ≤ size n
unfolding size
size_some (node k p q r) = omega arith

-- 1 for a k from a on and below b, else 0
pub data Once (k a b : ℕ) : ℕ → Type 0 where
  before : k < a → Once k a b 0
  inside : a ≤ k → k < b → Once k a b 1
  past : b ≤ k → Once k a b 0

once_join : {k a b c x y : ℕ} → a ≤ b → b ≤ c → Once k a b x → Once k b c y → Once k a c (x + y)
once_join l m (before h) (before i) = before h
once_join l m (before h) (inside i j) = absurd (omega arith)
once_join l m (before h) (past i) = absurd (omega arith)
once_join l m (inside g h) (before i) = inside g (omega arith)
once_join l m (inside g h) (inside i j) = absurd (omega arith)
once_join l m (inside g h) (past i) = absurd (omega arith)
once_join l m (past h) (before i) = absurd (omega arith)
once_join l m (past h) (inside i j) = inside (omega arith) j
once_join l m (past h) (past i) = past i

inside_one : {k a b x : ℕ} → Once k a b x → a ≤ k → k < b → x ≡ 1
inside_one (before h) l m = absurd (omega arith)
inside_one (inside h i) l m = refl
inside_one (past h) l m = absurd (omega arith)

module _ (t : List ℕ) where
  pub kind_there : {at : ℕ} {n : Node} → Stands t at n → Fits n → row_at t (at + size n - 1) ≡ row_of (kind_in n)
  unfolding size kind_in
  kind_there (stands {at = at} {k = k} {p = p} {q = q} {r = r} a b c w) (fits e d x y z) =
      let i : at + (size_below p + size_below q + size_below r + 1) - 1 ≡ at + size_below p + size_below q + size_below r = omega arith in
      rw i (ap row_of (ap kind_of (sym w.is_kind) ∙ e))

  place_fills : {at : ℕ} {w : Word} {s : Slot}
      → StandsBelow t at w → FitsPlace s w → (m : ℕ) → at + size_below w ≤ m → Fills t m s (word_at at w)
  unfolding size_below word_at
  place_fills nothing_below is_unused m h = refl
  place_fills nothing_below is_any m h = tt
  place_fills nothing_below (is_var l) m h = l
  place_fills (below {at = at} {n = n} a) (is_child f e) m h =
      let s = size_some n in
      record { below = omega arith; class = ap (λ (x : Row). x.class) (kind_there a f) ∙ e }

  -- ---- refusals 2 to 6

  top_fits : {at m : ℕ} {k : Kind} {p q r : Word} → StandsBelow t at p → StandsBelow t (at + size_below p) q
      → StandsBelow t (at + size_below p + size_below q) r → at + size_below p + size_below q + size_below r ≤ m
      → Words t m (kind_number k) (word_at at p) (word_at (at + size_below p) q) (word_at (at + size_below p + size_below q) r)
      → Fits (node k p q r) → NodeFits t m
  top_fits {m = m} {k = k} a b c h w (fits e d x y z) =
      let i : row_at t m ≡ row_of k = ap row_of (ap kind_of (sym w.is_kind) ∙ e) in
      record {
        known = λ h. d (ap (λ (x : Row). x.class) (sym i) ∙ h);
        p = rw (i, ← w.is_p) (place_fills a x m (omega arith));
        q = rw (i, ← w.is_q) (place_fills b y m (omega arith));
        r = rw (i, ← w.is_r) (place_fills c z m (omega arith));
      }

  mutual
    unfolding size size_below

    pub nodes_fit : {at : ℕ} {n : Node} → Stands t at n → Fits n → (i : ℕ) → at ≤ i → i < at + size n → NodeFits t i
    nodes_fit (stands {at = at} {p = p} {q = q} {r = r} a b c w) (fits e d x y z) i l h =
        pick (ltb i (at + size_below p)) refl (ltb i (at + size_below p + size_below q)) refl (ltb i (at + size_below p + size_below q + size_below r)) refl
        (λ l h. below_fit a x i l h) (λ l h. below_fit b y i l h) (λ l h. below_fit c z i l h) (top_fits a b c (le_refl _) w (fits e d x y z))
      where
        pick : (u : Bool) → ltb i (at + size_below p) ≡ u → (v : Bool) → ltb i (at + size_below p + size_below q) ≡ v
            → (w : Bool) → ltb i (at + size_below p + size_below q + size_below r) ≡ w
            → (at ≤ i → i < at + size_below p → NodeFits t i)
            → (at + size_below p ≤ i → i < at + size_below p + size_below q → NodeFits t i)
            → (at + size_below p + size_below q ≤ i → i < at + size_below p + size_below q + size_below r → NodeFits t i)
            → NodeFits t (at + size_below p + size_below q + size_below r) → NodeFits t i
        pick true e v f w g x y z o = x l (ltb-true _ _ e)
        pick false e true f w g x y z o = y (ltb-false _ _ e) (ltb-true _ _ f)
        pick false e false f true g x y z o = z (ltb-false _ _ f) (ltb-true _ _ g)
        pick false e false f false g x y z o =
            let j : at + size_below p + size_below q + size_below r ≤ i = ltb-false _ _ g in
            let k : at + size_below p + size_below q + size_below r ≡ i = omega arith in
            subst (NodeFits t) k o

    below_fit : {at : ℕ} {w : Word} {s : Slot}
        → StandsBelow t at w → FitsPlace s w → (i : ℕ) → at ≤ i → i < at + size_below w → NodeFits t i
    below_fit nothing_below f i l h = absurd (omega arith)
    below_fit (below a) (is_child f e) i l h = nodes_fit a f i l h

  -- ---- refusal 8: how often the node k is named by the nodes below m

  unfoldable named : ℕ → ℕ → ℕ
  named k m = occurs k (joined (children t) m)

  named_next : (k m : ℕ) → named k (suc m) ≡ named k m + occurs k (children t m)
  unfolding named
  named_next k m = occurs_next t k m

  record Counted (k at : ℕ) (n : Node) : Type 0 where
    amount : ℕ
    counts : named k (at + size n) ≡ named k at + amount
    once : Once k at (at + size n - 1) amount

  record CountedBelow (k at : ℕ) (s : Slot) (w : Word) : Type 0 where
    amount : ℕ
    counts : named k (at + size_below w) ≡ named k at + amount
    once : Once k at (at + size_below w) (amount + occurs k (child_in s (word_at at w)))

  -- the last node of a range, named by the node above it
  with_last : (k at m x : ℕ) → 1 ≤ m → Once k at (at + m - 1) x → Once k at (at + m) (x + occurs k ((at + m - 1) ∷ []))
  unfolding occurs
  with_last k at m x h o = last (eqb k (at + m - 1)) refl o
    where
      last : {x : ℕ} (b : Bool)
          → eqb k (at + m - 1) ≡ b → Once k at (at + m - 1) x → Once k at (at + m) (x + (cond b 1 0 + 0))
      last true e (before i) = let j : k ≡ at + m - 1 = eqb-true _ _ e in absurd (omega arith)
      last true e (inside i j) = let l : k ≡ at + m - 1 = eqb-true _ _ e in absurd (omega arith)
      last true e (past i) = let l : k ≡ at + m - 1 = eqb-true _ _ e in inside (omega arith) (omega arith)
      last false e (before i) = before i
      last false e (inside i j) = inside i (omega arith)
      last false e (past i) = past (let l : k ≡ at + m - 1 → ⊥ = eqb-false _ _ e in omega arith)

  -- what the top node adds
  top_names : (k m : ℕ) {n : Kind} {p q r : ℕ} → Words t m (kind_number n) p q r → kind_of (kind_number n) ≡ n
      → occurs k (children t m) ≡ occurs k (child_in (row_of n).p p) + occurs k (child_in (row_of n).q q) + occurs k (child_in (row_of n).r r)
  unfolding children
  top_names k m {n} {p} {q} {r} w e =
      let i : row_at t m ≡ row_of n = ap row_of (ap kind_of (sym w.is_kind) ∙ e) in
      let A : List ℕ = child_in (row_of n).p p in
      let B : List ℕ = child_in (row_of n).q q in
      let C : List ℕ = child_in (row_of n).r r in
      let c = occurs_append k (A ++ B) C in
      let b = occurs_append k A B in
      rw (i, ← w.is_p, ← w.is_q, ← w.is_r) (let done : occurs k (A ++ B ++ C) ≡ occurs k A + occurs k B + occurs k C = omega arith in done)

  -- three neighbouring ranges, and the node after them that names the last of each
  join_counts : (k at i j l x y z u v w : ℕ)
      → named k (at + i) ≡ named k at + x → named k (at + i + j) ≡ named k (at + i) + y → named k (at + i + j + l) ≡ named k (at + i + j) + z
      → occurs k (children t (at + i + j + l)) ≡ u + v + w
      → Once k at (at + i) (x + u) → Once k (at + i) (at + i + j) (y + v) → Once k (at + i + j) (at + i + j + l) (z + w)
      → (n : ℕ) × (named k (at + (i + j + l + 1)) ≡ named k at + n) × Once k at (at + (i + j + l + 1) - 1) n
  join_counts k at i j l x y z u v w a b c top f g h =
      let up : at + (i + j + l + 1) ≡ suc (at + i + j + l) = omega arith in
      let down : at + (i + j + l + 1) - 1 ≡ at + i + j + l = omega arith in
      let next = named_next k (at + i + j + l) in
      let all : named k (suc (at + i + j + l)) ≡ named k at + (x + u + (y + v) + (z + w)) = omega arith in
      (x + u + (y + v) + (z + w), rw up all, rw down (once_join (omega arith) (omega arith) (once_join (omega arith) (omega arith) f g) h))

  none_counted : (k at : ℕ) → named k (at + 0) ≡ named k at + 0
  none_counted k at = ap (named k) (add-zero at) ∙ omega arith

  none_once : (k at : ℕ) → Once k at (at + 0) 0
  none_once k at = split (ltb k at) refl
    where
      split : (b : Bool) → ltb k at ≡ b → Once k at (at + 0) 0
      split true e = before (ltb-true k at e)
      split false e = let h : at ≤ k = ltb-false k at e in past (omega arith)

  mutual
    unfolding size size_below child_in word_at occurs

    counted : {at : ℕ} {n : Node} → Stands t at n → Fits n → (k : ℕ) → Counted k at n
    counted (stands {at = at} {p = p} {q = q} {r = r} a b c w) (fits e d x y z) k =
        let f = counted_below a x k in
        let g = counted_below b y k in
        let h = counted_below c z k in
        let top = top_names k (at + size_below p + size_below q + size_below r) w e in
        let j = join_counts k at (size_below p) (size_below q) (size_below r) _ _ _ _ _ _ f.counts g.counts h.counts top f.once g.once h.once in
        record { amount = j.0; counts = j.1; once = j.2 }

    counted_below : {at : ℕ} {w : Word} {s : Slot} → StandsBelow t at w → FitsPlace s w → (k : ℕ) → CountedBelow k at s w
    counted_below (nothing_below {at = at}) is_unused k = record { amount = 0; counts = none_counted k at; once = none_once k at }
    counted_below (nothing_below {at = at}) is_any k = record { amount = 0; counts = none_counted k at; once = none_once k at }
    counted_below (nothing_below {at = at}) (is_var l) k = record { amount = 0; counts = none_counted k at; once = none_once k at }
    counted_below (below {at = at} {n = n} a) (is_child f e) k =
        let c = counted a f k in
        record { amount = c.amount; counts = c.counts; once = with_last k at (size n) c.amount (size_some n) c.once }

  -- every node from the first on, up to the last, is named once
  pub named_once : {n : Node}
      → Stands t 0 n → Fits n → (k : ℕ) → k < size n - 1 → occurs k (joined (children t) (size n)) ≡ 1
  unfolding named joined occurs
  named_once {n} a f k h =
      let c = counted a f k in
      let i : 0 + size n ≡ size n = omega arith in
      let e : occurs k (joined (children t) (size n)) ≡ occurs k (joined (children t) 0) + c.amount = rw i at c.counts in
      let one : c.amount ≡ 1 = inside_one c.once (omega arith) (omega arith) in
      let start : occurs k (joined (children t) 0) ≡ 0 = refl in
      omega arith
