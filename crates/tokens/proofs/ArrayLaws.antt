-- The stacks in arrays: numbers are closed, opened and counted; the tables; and a move that is sought.
use mathlib.Core.Path.{◌≡◌, refl, sym, ap, ◌∙◌}
use Prim.Native.Nat.{ℕ, zero, suc, ◌+◌, ◌-◌, ◌*◌, ◌%◌, ◌≤◌, ◌<◌}
use mathlib.Core.Bool.{true, false, ◌&&◌}
use mathlib.Core.List.{List, [], ◌∷◌}
use native.Mathlib.Omega.{arith}
use native.Mathlib.Numerals.{add-one}
use lib.Dec.{eqb, ltb, lit<}
use lib.ListN.{length, get_or, set, length-set}
use lib.Seq.{get_or-set_same, get_or-set_other}
use borrow.Author.Tests.{eqb-true, ltb-true, ltb-false, eq-eqb, ne_eqb}
use Rattle.rules.proofs.ListLaws.{and_true}
use Rattle.tokens.specs.declared.moves.Standing.{Standing}
use Rattle.tokens.specs.Tables.{acts, moves}
use Rattle.tokens.specs.Flat.{act, move_at, row_of, closed}
use Rattle.tokens.specs.Shape.{shape, found, seek_by, seek, locate}
use Rattle.tokens.specs.Arrays.{stack, Acts, RowIs, Sought, Located, Lower, counted_number, Counted}
use Rattle.tokens.proofs.NodeLaws.{past_end}

-- ---- the tables

pub act_read : {l : List ℕ} → Acts l → (row kind : ℕ) → get_or l (32 * row + kind) 0 ≡ act row kind
unfolding act
act_read t row kind = ap (λ (l : List ℕ). get_or l (32 * row + kind) 0) t.is

pub act_past : (row kind : ℕ) → 1024 ≤ 32 * row + kind → 0 ≡ act row kind
unfolding act acts
act_past row kind h = sym (past_end acts _ h)

pub move_past : (a i : ℕ) → 544 ≤ 16 * a + i → 0 ≡ move_at a i
unfolding move_at moves
move_past a i h = sym (past_end moves _ h)

-- ---- stacks

pub stack_length : (l : List ℕ) (i : ℕ) → length (stack l i) ≡ i
unfolding stack
stack_length l zero = refl
stack_length l (suc i) = ap suc (stack_length l i)

-- a store at or above the top leaves the stack
pub stack_kept : (l : List ℕ) (i j v : ℕ) → i ≤ j → stack (set l j v) i ≡ stack l i
unfolding stack
stack_kept l zero j v h = refl
stack_kept l (suc i) j v h =
    let a = stack_kept l i j v (omega arith) in
    let b : get_or (set l j v) i 0 ≡ get_or l i 0 = get_or-set_other l j i v 0 (λ e. omega arith) in
    rw (a, b)

pub stack_pushed : (l : List ℕ) (i v : ℕ) → i < length l → stack (set l i v) (i + 1) ≡ v ∷ stack l i
unfolding stack
stack_pushed l i v h =
    let a = stack_kept l i i v (omega arith) in
    let b : get_or (set l i v) i 0 ≡ v = get_or-set_same l i v 0 h in
    rw (add-one, a, b)

pub stack_top : (l : List ℕ) (i : ℕ) → 0 < i → stack l i ≡ get_or l (i - 1) 0 ∷ stack l (i - 1)
unfolding stack
stack_top l zero h = absurd (omega arith)
stack_top l (suc i) h = let e : suc i - 1 ≡ i = omega arith in rw e

stack_closed : (l : List ℕ) (i n : ℕ) → 0 < n → stack l (i - 1) ≡ closed n (stack l i)
unfolding stack closed
stack_closed l i zero h = absurd (omega arith)
stack_closed l zero (suc n) h = refl
stack_closed l (suc i) (suc n) h = let e : suc i - 1 ≡ i = omega arith in rw e

nil_closed : (n : ℕ) → [] ≡ closed {A = ℕ} n []
unfolding closed
nil_closed zero = refl
nil_closed (suc n) = refl

pub lower_none : {top : ℕ} → Lower top 0 top
unfolding closed
lower_none = record { is = λ l. refl; below = omega arith }

pub lower_one : {top : ℕ} → Lower top 1 (top - 1)
lower_one {top} = record { is = λ l. stack_closed l top 1 (lit< tt); below = omega arith }

-- ---- one statement more

pub counted_none : {l : List ℕ} {top : ℕ} → Counted l top 0 l
unfolding counted_number
counted_none = record { is = refl; room = refl }

nil_counted : (n : ℕ) → [] ≡ counted_number n []
unfolding counted_number
nil_counted zero = refl
nil_counted (suc n) = refl

pub counted_empty : {l : List ℕ} {top n : ℕ} → top ≡ 0 → Counted l top n l
unfolding stack
counted_empty {n = n} z = rw z (record { is = nil_counted n; room = refl })

counted_top : (k : ℕ) (ks : List ℕ) → (suc k % 4294967296) ∷ ks ≡ counted_number 1 (k ∷ ks)
unfolding counted_number
counted_top k ks = refl

pub counted_one : {l : List ℕ} {top v : ℕ} → (top ≡ 0 → ⊥) → top ≤ 1543 → length l ≡ 1600
    → v ≡ suc (get_or l (top - 1) 0) % 4294967296
    → Counted l top 1 (set l (top - 1) v)
counted_one {l} {top} {v} k m r e =
    let p : 0 < top = some top k in
    let q : top ≡ top - 1 + 1 = omega arith in
    let a : stack (set l (top - 1) v) (top - 1 + 1) ≡ v ∷ stack l (top - 1) = stack_pushed l (top - 1) v (omega arith) in
    let b : stack (set l (top - 1) v) top ≡ v ∷ stack l (top - 1) = ap (stack (set l (top - 1) v)) q ∙ a in
    record {
      is = b ∙ ap (λ (x : ℕ). x ∷ stack l (top - 1)) e ∙ counted_top (get_or l (top - 1) 0) (stack l (top - 1)) ∙ ap
          (counted_number 1) (sym (stack_top l top p));
      room = simp length-set;
    }
  where
    some : (n : ℕ) → (n ≡ 0 → ⊥) → 0 < n
    some n h = omega arith

-- ---- a move is sought

pub sought_past : (st : List ℕ) (i kind : ℕ) → 0 < i → act (get_or st (i - 1) 0) kind ≡ 1
    → seek kind (stack st i) ≡ seek kind (stack st (i - 1))
unfolding seek seek_by
sought_past st i kind h e = rw (stack_top st i h, e)

pub sought_here : (st : List ℕ) (i kind a : ℕ) → 0 < i → a ≡ act (get_or st (i - 1) 0) kind → (a ≡ 1 → ⊥)
    → seek kind (stack st i) ≡ found a (stack st i)
unfolding seek seek_by
sought_here st i kind a h e k = rw (stack_top st i h, ← e, ne_eqb a 1 k)

pub row_few : (mode left : ℕ) → (eqb left 0 && ltb mode 1024) ≡ true → mode < 1024
row_few mode left e = ltb-true mode 1024 (and_true (eqb left 0) (ltb mode 1024) e).1

pub row_above : (mode left : ℕ) → (eqb left 0 && ltb mode 1024) ≡ true → RowIs mode left (mode + 7)
unfolding row_of
row_above mode left e = let z = eqb-true left 0 (and_true (eqb left 0) (ltb mode 1024) e).0 in record { is = λ kind. rw z }

pub row_itself : (mode left : ℕ) → (eqb left 0 && ltb mode 1024) ≡ false → RowIs mode left mode
unfolding row_of
row_itself mode (suc n) e = record { is = λ kind. refl }
row_itself mode zero e =
    let h = ltb-false mode 1024 e in
    record { is = λ kind. sym (act_past mode kind (omega arith)) ∙ act_past (mode + 7) kind (omega arith) }

pub located_sought : (mode left : ℕ) (fs : List ℕ) (kind : ℕ) → mode ≡ 6 → locate (shape mode left fs) kind ≡ seek kind fs
unfolding locate seek_by
located_sought mode left fs kind e = rw (eq-eqb mode 6 e)

pub located_here : (mode left : ℕ) (fs : List ℕ) (kind : ℕ) {a r : ℕ} → (mode ≡ 6 → ⊥) → r ≡ row_of mode left → a ≡ act r kind
    → locate (shape mode left fs) kind ≡ found a fs
unfolding locate seek_by
located_here mode left fs kind h e f = rw (ne_eqb mode 6 h, ← e, ← f)

pub located_seek : (st : List ℕ) (s : Standing) (kind a t : ℕ) → s.mode ≡ 6 → Sought st s.top kind a t → Located st s kind a t
located_seek st s kind a t e f =
    record { is = located_sought s.mode s.left (stack st s.top) kind e ∙ f.is; below = f.below }

pub located_row : (st : List ℕ) (s : Standing) (kind a r : ℕ) → (s.mode ≡ 6 → ⊥) → r ≡ row_of s.mode s.left → a ≡ act r kind
    → Located st s kind a s.top
located_row st s kind a r h e f =
    record { is = located_here s.mode s.left (stack st s.top) kind h e f; below = omega arith }

pub sought_none : (st : List ℕ) (top kind i : ℕ) → seek kind (stack st top) ≡ seek kind (stack st i) → i ≡ 0
    → Sought st top kind 0 0
unfolding seek stack
sought_none st top kind i e z = record { is = rw z at e; below = omega arith }

pub sought_found : (st : List ℕ) (top kind i a w : ℕ) → (seek kind (stack st top) ≡ seek kind (stack st i)) × (i ≤ top) → 0 < i
    → w ≡ get_or st (i - 1) 0 → a ≡ act w kind → (a ≡ 1 → ⊥) → Sought st top kind a i
sought_found st top kind i a w p h e f k =
    let g : a ≡ act (get_or st (i - 1) 0) kind = rw (← e) f in
    record { is = p.0 ∙ sought_here st i kind a h g k; below = p.1 }

pub sought_on : (st : List ℕ) (top kind i a w : ℕ) → (seek kind (stack st top) ≡ seek kind (stack st i)) × (i ≤ top) → 0 < i
    → w ≡ get_or st (i - 1) 0 → a ≡ act w kind → a ≡ 1 → (seek kind (stack st top) ≡ seek kind (stack st (i - 1))) × (i - 1 ≤ top)
sought_on st top kind i a w p h e f k =
    let g : act (get_or st (i - 1) 0) kind ≡ 1 = rw (← e) (sym f ∙ k) in
    let l = p.1 in
    (p.0 ∙ sought_past st i kind h g, omega arith)
