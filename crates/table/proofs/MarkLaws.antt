-- The marks after a run of children: how often each node was named, but at most 2.
use mathlib.Core.Path.{◌≡◌, refl, sym, ◌∙◌}
use mathlib.Core.Bool.{Bool, true, false, cond}
use mathlib.Core.List.{List, [], ◌∷◌, ◌++◌, foldl-append}
use Prim.Native.Nat.{ℕ, ◌+◌, ◌*◌, ◌-◌, ◌/◌, ◌%◌, ◌<◌, ◌≤◌, min, max}
use native.Mathlib.Omega.{arith}
use native.Mathlib.Numerals.{add-one}
use lib.Dec.{eqb, ltb}
use lib.ListN.{length, get_or, replicate, length-replicate}
use borrow.Author.Tests.{eqb-true, eqb-false, ltb-true, ltb-false}
use Rattle.bits.specs.Bit.{bit}
use Rattle.bits.proofs.BitLaws.{no_bit, Lowest}
use Rattle.rules.specs.Lists.{joined}
use Rattle.rules.specs.Table.{nodes, children, occurs}
use Rattle.table.specs.inside.Sets.{held, put, Marks, named, bump, bumps, marks_of, NotOnce, FirstNotOnce}
use Rattle.table.proofs.SetLaws.{at_x, Place, is, is_not, place, held_most, held_put, length_put, none_held}

pub bumps_append : (m : Marks) (xs ys : List ℕ) → bumps m (xs ++ ys) ≡ bumps (bumps m xs) ys
unfolding bumps
bumps_append m xs ys = foldl-append bump m xs ys

-- two sets of 1,024 nodes, and what is named again is named
record Kept (m : Marks) : Type 0 where
  pub once_room : length m.0 ≡ 32
  pub again_room : length m.1 ≡ 32
  pub again_once : (k : ℕ) → k < 1024 → held m.1 k ≤ held m.0 k

-- x is named once more
record Bumped (m : Marks) (x : ℕ) (m' : Marks) : Type 0 where
  pub kept : Kept m'
  pub counted : (k : ℕ) → k < 1024 → named m' k ≡ min 2 (named m k + at_x x k)

module _ (m : Marks) (x : ℕ) (s : Kept m) where
  put_once : (k : ℕ) → k < 1024 → held (put m.0 x) k ≡ max (held m.0 k) (at_x x k)
  put_once k h = held_put m.0 x k (omega (arith, s.once_room))

  put_again : (k : ℕ) → k < 1024 → held (put m.1 x) k ≡ max (held m.1 k) (at_x x k)
  put_again k h = held_put m.1 x k (omega (arith, s.again_room))

  -- x is named already
  once_more : held m.0 x ≡ 1 → Bumped m x (m.0, put m.1 x)
  once_more e = record {
    kept = record { once_room = s.once_room; again_room = length_put m.1 x ∙ s.again_room; again_once = λ k h. still k h (place x k) };
    counted = λ k h. count k h (place x k);
  }
    where
      still : (k : ℕ) → k < 1024 → Place x k → held (put m.1 x) k ≤ held m.0 k
      still k h (is here one) = omega (arith, put_again k h, rw (← here) at e, held_most m.1 k, one)
      still k h (is_not nought) = omega (arith, put_again k h, s.again_once k h, nought)

      count : (k : ℕ) → k < 1024 → Place x k → held m.0 k + held (put m.1 x) k ≡ min 2 (named m k + at_x x k)
      count k h (is here one) = omega (arith, put_again k h, rw (← here) at e, held_most m.1 k, one)
      count k h (is_not nought) = omega (arith, put_again k h, held_most m.0 k, held_most m.1 k, nought)

  first_time : (held m.0 x ≡ 1 → ⊥) → Bumped m x (put m.0 x, m.1)
  first_time ne = record {
    kept = record {
      once_room = length_put m.0 x ∙ s.once_room;
      again_room = s.again_room;
      again_once = λ k h. omega (arith, s.again_once k h, put_once k h);
    };
    counted = λ k h. count k h (place x k);
  }
    where
      fresh : held m.0 x ≡ 0
      fresh = omega (arith, held_most m.0 x, ne)

      count : (k : ℕ) → k < 1024 → Place x k → held (put m.0 x) k + held m.1 k ≡ min 2 (named m k + at_x x k)
      count k h (is here one) = omega (arith, put_once k h, rw (← here) at fresh, s.again_once k h, one)
      count k h (is_not nought) = omega (arith, put_once k h, held_most m.0 k, held_most m.1 k, nought)

  bumped : Bumped m x (bump m x)
  unfolding bump
  bumped = by (eqb (held m.0 x) 1) refl
    where
      by : (b : Bool) → eqb (held m.0 x) 1 ≡ b → Bumped m x (cond (eqb (held m.0 x) 1) (m.0, put m.1 x) (put m.0 x, m.1))
      by true e = rw e (once_more (eqb-true (held m.0 x) 1 e))
      by false e = rw e (first_time (eqb-false (held m.0 x) 1 e))

bumps_at : (ks : List ℕ) (m : Marks) → Kept m → (k : ℕ) → k < 1024 → named (bumps m ks) k ≡ min 2 (named m k + occurs k ks)
unfolding bumps occurs
bumps_at [] m s k h = omega (arith, held_most m.0 k, held_most m.1 k)
bumps_at (x ∷ ks) m s k h =
    let b = bumped m x s in
    bumps_at ks (bump m x) b.kept k h ∙ omega (arith, b.counted k h)

-- one node more
pub marks_next : (t : List ℕ) (m₀ m m₁ : Marks) (n : ℕ) → m ≡ bumps m₀ (joined (children t) n) → m₁ ≡ bumps m (children t n)
    → m₁ ≡ bumps m₀ (joined (children t) (n + 1))
unfolding joined
marks_next t m₀ m m₁ n e f = f ∙ rw (e, add-one) (sym (bumps_append m₀ (joined (children t) n) (children t n)))

-- what the marks say once every node is walked
pub marks_say : (t : List ℕ) (k : ℕ) → k < 1024 → named (marks_of t) k ≡ min 2 (occurs k (joined (children t) (nodes t)))
unfolding marks_of
marks_say t k h =
    let room : length (replicate {A = ℕ} 32 0) ≡ 32 = length-replicate {A = ℕ} 32 0 in
    let empty : Kept (replicate 32 0, replicate 32 0) = record { once_room = room; again_room = room; again_once = λ k h. omega arith } in
    bumps_at (joined (children t) (nodes t)) (replicate 32 0, replicate 32 0) empty k h ∙ omega (arith, none_held k h)

-- ---- the search for a node that is not named exactly once

-- a word's nodes that are not: those that the word `wrong` has
module _ (m : Marks) (i wrong : ℕ) (told : NotOnce (get_or m.0 i 0) (get_or m.1 i 0) wrong) where
  told_at : (k : ℕ) → k / 32 ≡ i → bit wrong (k % 32) ≡ 1 - named m k % 2
  unfolding held
  told_at k e = rw e (told (k % 32) (omega arith))

  right_bit : (k : ℕ) → k / 32 ≡ i → bit wrong (k % 32) ≡ 0 → named m k ≡ 1
  right_bit k e z = omega (arith, told_at k e, held_most m.0 k, held_most m.1 k, z)

  wrong_bit : (k : ℕ) → k / 32 ≡ i → bit wrong (k % 32) ≡ 1 → named m k ≡ 1 → ⊥
  wrong_bit k e s one = omega (arith, told_at k e, s, one)

  module _ (before : (k : ℕ) → k < 32 * i → named m k ≡ 1) where
    -- no node of this word
    pub word_right : wrong ≡ 0 → (k : ℕ) → k < 32 * (i + 1) → named m k ≡ 1
    word_right z k h = by (ltb k (32 * i)) refl
      where
        by : (b : Bool) → ltb k (32 * i) ≡ b → named m k ≡ 1
        by true q = before k (ltb-true k (32 * i) q)
        by false q = right_bit k (omega (arith, ltb-false k (32 * i) q)) (rw z (no_bit (k % 32)))

    -- the lowest node of this word
    pub word_wrong : (j : ℕ) → Lowest 32 wrong j → i < 32 → FirstNotOnce m (32 * i + j)
    word_wrong j low l = record {
      once = λ k h. by k h (ltb k (32 * i)) refl;
      most = omega (arith, low.short);
      not_once = λ h. wrong_bit (32 * i + j) (omega (arith, low.short)) (rw here low.set);
    }
      where
        here : (32 * i + j) % 32 ≡ j
        here = omega (arith, low.short)

        by : (k : ℕ) → k < 32 * i + j → (b : Bool) → ltb k (32 * i) ≡ b → named m k ≡ 1
        by k h true q = before k (ltb-true k (32 * i) q)
        by k h false q =
            let past = ltb-false k (32 * i) q in
            right_bit k (omega (arith, past, low.short)) (low.below (k % 32) (omega (arith, past, low.short)))
