-- Nodes added to a set: what it holds then, and the children of a word's nodes, as the code adds them.
use mathlib.Core.Logic.{◌⊎◌, inl, inr}
use mathlib.Core.Path.{◌≡◌, refl, ap, sym, ◌∙◌}
use mathlib.Core.Bool.{Bool, true, false, cond}
use mathlib.Core.List.{List, [], ◌∷◌, ◌++◌, append_assoc, append-nil, foldl-append}
use Prim.Native.Nat.{ℕ, zero, suc, ◌+◌, ◌*◌, ◌-◌, ◌/◌, ◌%◌, ◌<◌, ◌≤◌, min, max}
use native.Mathlib.Omega.{arith}
use lib.Bits.{bit_and}
use lib.Dec.{eqb}
use lib.ListN.{length, get_or, set}
use borrow.Author.Tests.{eqb-true, eqb-false, eq-eqb}
use Rattle.bits.specs.Bit.{bit}
use Rattle.bits.proofs.BitLaws.{bit_most, bit_with, no_bit, Lowest}
use Rattle.rules.specs.Lists.{joined}
use Rattle.rules.specs.Table.{children, occurs}
use Rattle.rules.proofs.Bound.{occurs_append}
use Rattle.table.specs.inside.Sets.{held, Nodes, add, adds, under}
use Rattle.table.proofs.SetLaws.{at_x, Place, is, is_not, place, held_at, held_put, length_put}

-- ---- nodes added

pub adds_append : (m : Nodes) (xs ys : List ℕ) → adds m (xs ++ ys) ≡ adds (adds m xs) ys
unfolding adds
adds_append m xs ys = foldl-append add m xs ys

-- three runs of nodes, one after the other
pub adds_three : (m m₁ m₂ m₃ : Nodes) (xs ys zs : List ℕ) → m₁ ≡ adds m xs → m₂ ≡ adds m₁ ys → m₃ ≡ adds m₂ zs → m₃ ≡ adds m (xs ++ ys ++ zs)
adds_three m m₁ m₂ m₃ xs ys zs e f g = rw (g, f, e, adds_append m (xs ++ ys) zs, adds_append m xs ys)

pub adds_room : (ks : List ℕ) (m : Nodes) → length (adds m ks).0 ≡ length m.0
unfolding adds add
adds_room [] m = refl
adds_room (x ∷ ks) m = adds_room ks (add m x) ∙ length_put m.0 x

pub adds_held : (ks : List ℕ) (m : Nodes) (k : ℕ) → k / 32 < length m.0 → held (adds m ks).0 k ≡ max (held m.0 k) (min 1 (occurs k ks))
unfolding adds add occurs
adds_held [] m k h = omega arith
adds_held (x ∷ ks) m k h = adds_held ks (add m x) k (omega (arith, length_put m.0 x)) ∙ by (place x k)
  where
    one : held (add m x).0 k ≡ max (held m.0 k) (at_x x k)
    one = held_put m.0 x k h

    by : Place x k → max (held (add m x).0 k) (min 1 (occurs k ks)) ≡ max (held m.0 k) (min 1 (at_x x k + occurs k ks))
    by (is here set) = omega (arith, one, set)
    by (is_not unset) = omega (arith, one, unset)

pub adds_words : (ks : List ℕ) (m : Nodes) (k : ℕ) → max (bit m.1 (k / 32)) (min 1 (occurs k ks)) ≤ bit (adds m ks).1 (k / 32)
unfolding adds add occurs
adds_words [] m k = omega (arith, bit_most m.1 (k / 32))
adds_words (x ∷ ks) m k = by (place x k) (adds_words ks (add m x) k)
  where
    by : Place x k
        → max (bit (add m x).1 (k / 32)) (min 1 (occurs k ks)) ≤ bit (adds (add m x) ks).1 (k / 32)
        → max (bit m.1 (k / 32)) (min 1 (at_x x k + occurs k ks)) ≤ bit (adds (add m x) ks).1 (k / 32)
    by (is here set) later =
        let word : eqb (k / 32) (x / 32) ≡ true = eq-eqb (k / 32) (x / 32) (omega arith) in
        omega (arith, later, set, rw word at (bit_with m.1 (x / 32) (k / 32)), bit_most m.1 (k / 32))
    by (is_not unset) later = omega (arith, later, unset, bit_with m.1 (x / 32) (k / 32))

-- where a word is in use, there is a node
pub adds_some : (ks : List ℕ) (m : Nodes) → ((adds m ks).1 ≡ 0 → ⊥) → (m.1 ≡ 0 → ⊥) ⊎ ((k : ℕ) × (0 < occurs k ks))
unfolding adds occurs
adds_some [] m ne = inl ne
adds_some (x ∷ ks) m ne = inr (x, rw (eq-eqb x x refl) (omega arith))

-- ---- the children under a word

in_joined : (k : ℕ) (f : ℕ → List ℕ) (n : ℕ) → 0 < occurs k (joined f n) → (j : ℕ) × (j < n) × (0 < occurs k (f j))
unfolding joined occurs
in_joined k f zero h = absurd (omega arith)
in_joined k f (suc n) h = by (occurs k (f n)) refl (in_joined k f n)
  where
    by : (c : ℕ) → occurs k (f n) ≡ c → (0 < occurs k (joined f n) → (j : ℕ) × (j < n) × (0 < occurs k (f j)))
        → (j : ℕ) × (j < suc n) × (0 < occurs k (f j))
    by zero e earlier =
        let found = earlier (omega (arith, occurs_append k (joined f n) (f n))) in
        (found.0, omega (arith, found.1), found.2)
    by (suc c) e earlier = (n, omega arith, omega arith)

joined_in : (k : ℕ) (f : ℕ → List ℕ) (n j : ℕ) → j < n → 0 < occurs k (f j) → 0 < occurs k (joined f n)
unfolding joined
joined_in k f zero j l h = absurd (omega arith)
joined_in k f (suc n) j l h = by (eqb j n) refl (joined_in k f n j)
  where
    by : (b : Bool) → eqb j n ≡ b → (j < n → 0 < occurs k (f j) → 0 < occurs k (joined f n)) → 0 < occurs k (joined f n ++ f n)
    by true e earlier = let last = eqb-true j n e in omega (arith, occurs_append k (joined f n) (f n), rw last at h)
    by false e earlier =
        let ne = eqb-false j n e in
        omega (arith, occurs_append k (joined f n) (f n), earlier (omega (arith, ne)) h)

-- a parent in word i that names k
pub record Parent (t row : List ℕ) (i k : ℕ) : Type 0 where
  pub node : ℕ
  pub word : node / 32 ≡ i
  pub here : held row node ≡ 1
  pub names : 0 < occurs k (children t node)

module _ (t row : List ℕ) (i k : ℕ) where
  pub parent : 0 < occurs k (under t i (get_or row i 0)) → Parent t row i k
  unfolding under occurs
  parent h = let found = in_joined k _ 32 h in by found.0 found.1 (eqb (bit (get_or row i 0) found.0) 1) refl found.2
    where
      by : (j : ℕ) → j < 32 → (b : Bool) → eqb (bit (get_or row i 0) j) 1 ≡ b
          → 0 < occurs k (cond (eqb (bit (get_or row i 0) j) 1) (children t (32 * i + j)) []) → Parent t row i k
      by j l true e g =
          record { node = 32 * i + j; word = omega arith; here = held_at row i j l ∙ eqb-true _ 1 e; names = rw e at g }
      by j l false e g = absurd (omega (arith, rw e at g))

  pub named_under : (n : ℕ) → n / 32 ≡ i → held row n ≡ 1 → 0 < occurs k (children t n) → 0 < occurs k (under t i (get_or row i 0))
  unfolding under held
  named_under n e here h =
      let same : 32 * i + n % 32 ≡ n = omega arith in
      let set : eqb (bit (get_or row i 0) (n % 32)) 1 ≡ true = eq-eqb _ 1 (rw e at here) in
      joined_in k _ 32 (n % 32) (omega arith) (rw (set, same) h)

-- ---- the children of a word, node by node

nothing_joined : (f : ℕ → List ℕ) (n : ℕ) → ((k : ℕ) → k < n → f k ≡ []) → joined f n ≡ []
unfolding joined
nothing_joined f zero e = refl
nothing_joined f (suc n) e = rw (nothing_joined f n (λ k h. e k (omega arith)), e n (omega arith))

-- the first part that is not empty, and then the others
first_joined : (f g : ℕ → List ℕ) (n j : ℕ) → j < n → ((k : ℕ) → k < j → f k ≡ []) → g j ≡ [] → ((k : ℕ) → (k ≡ j → ⊥) → g k ≡ f k)
    → joined f n ≡ f j ++ joined g n
unfolding joined
first_joined f g zero j l lower here same = absurd (omega arith)
first_joined f g (suc n) j l lower here same = by (eqb j n) refl (λ h. first_joined f g n j h lower here same)
  where
    by : (b : Bool) → eqb j n ≡ b → (j < n → joined f n ≡ f j ++ joined g n) → joined f n ++ f n ≡ f j ++ (joined g n ++ g n)
    by true e earlier =
        let last : j ≡ n = eqb-true j n e in
        let f-none = nothing_joined f n (λ k h. lower k (omega (arith, last))) in
        let g-none = nothing_joined g n (λ k h. same k (λ q. omega (arith, q, last)) ∙ lower k (omega (arith, last))) in
        rw (f-none, g-none, ← last, here) (sym (append-nil (f j)))
    by false e earlier =
        let ne = eqb-false j n e in
        rw (earlier (omega (arith, ne)), same n (λ q. ne (sym q))) (append_assoc (f j) (joined g n) (f n))

module _ (t : List ℕ) (i : ℕ) (m : Nodes) where
  -- no node, no children
  pub adds_none : (w : ℕ) → w ≡ 0 → adds m (under t i w) ≡ m
  unfolding adds under
  adds_none w e = rw e (ap (adds m) (nothing_joined _ 32 (λ k h. rw (no_bit k))))

  under_lowest : (w j : ℕ) → Lowest 32 w j → under t i w ≡ children t (32 * i + j) ++ under t i (bit_and w (w - 1))
  unfolding under
  under_lowest w j l =
      first_joined _ (λ k. cond (eqb (bit (bit_and w (w - 1)) k) 1) (children t (32 * i + k)) []) 32 j l.short
      (λ k h. rw (l.below k h))
      (rw l.gone)
      (λ k ne. rw (l.kept k ne))
      ∙ rw l.set

  -- the children of the lowest node first, then those of the others
  pub adds_lowest : (w j : ℕ) → Lowest 32 w j → (m₁ : Nodes) → m₁ ≡ adds m (children t (32 * i + j))
      → adds m₁ (under t i (bit_and w (w - 1))) ≡ adds m (under t i w)
  adds_lowest w j l m₁ e = rw (e, under_lowest w j l) (sym (adds_append m (children t (32 * i + j)) (under t i (bit_and w (w - 1)))))
