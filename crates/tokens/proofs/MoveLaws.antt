-- A move is made: what the code does is what its row of the table of moves says.
use mathlib.Core.Path.{◌≡◌, refl, sym, ap, ◌∙◌}
use Prim.Native.Nat.{ℕ, zero, suc, ◌+◌, ◌-◌, ◌≤◌, ◌<◌}
use mathlib.Core.Bool.{Bool, true, false}
use mathlib.Core.List.{List, [], ◌∷◌, ◌++◌}
use native.Mathlib.Omega.{arith}
use native.Mathlib.Numerals.{add-one}
use lib.Dec.{ltb}
use borrow.Author.Tests.{ltb-true, ltb-false}
use lib.ListN.{length, set, length-set}
use Rattle.tokens.specs.declared.moves.Place.{Place}
use Rattle.tokens.specs.declared.moves.Standing.{Standing}
use Rattle.tokens.specs.Tables.{moves}
use Rattle.tokens.specs.Flat.{move_at, closed, opened, level}
use Rattle.tokens.specs.Shape.{Shape, shape, enter}
use Rattle.tokens.specs.Arrays.{stack, Lower, counted_number, taken_number, number_at, Counted, Opened, entered, Entered}
use Rattle.tokens.proofs.ArrayLaws.{move_past, stack_pushed, lower_none, counted_none}

-- ---- rows

-- how many frames are closed, the mode then, the level, whether a statement is counted, whether the first frame takes the number of the
-- token, and the frames that are opened, the last first
pub data Row : Type 0 where
  row : ℕ → ℕ → ℕ → ℕ → ℕ → List ℕ → Row

unfoldable pub move_row : ℕ → Row
move_row a =
    row (move_at a 0) (move_at a 6) (move_at a 7) (move_at a 10) (move_at a 11) (opened (λ j. move_at a (2 + j)) (move_at a 1) [])

unfoldable enter_row : Row → ℕ → List ℕ → Shape
enter_row (row closes mode change counts takes fs) left ts = shape mode (level change left) (fs ++ closed closes ts)

unfoldable entered_row : Row → ℕ → List ℕ → List ℕ
entered_row (row closes mode change counts takes fs) x ks =
    opened (number_at (taken_number takes x)) (length fs) (counted_number counts (closed closes ks))

opened_on : (f : ℕ → ℕ) (n : ℕ) (ts : List ℕ) → opened f n ts ≡ opened f n [] ++ ts
unfolding opened
opened_on f zero ts = refl
opened_on f (suc n) ts = ap (λ (l : List ℕ). f n ∷ l) (opened_on f n ts)

opened_length : (f : ℕ → ℕ) (n : ℕ) → length (opened f n []) ≡ n
unfolding opened
opened_length f zero = refl
opened_length f (suc n) = ap suc (opened_length f n)

enter_row_lem : (a left : ℕ) (ts : List ℕ) → enter left a ts ≡ enter_row (move_row a) left ts
unfolding enter enter_row move_row
enter_row_lem a left ts =
    ap (λ (l : List ℕ). shape (move_at a 6) (level (move_at a 7) left) l)
    (opened_on (λ j. move_at a (2 + j)) (move_at a 1) (closed (move_at a 0) ts))

entered_row_lem : (a x : ℕ) (ks : List ℕ) → entered a x ks ≡ entered_row (move_row a) x ks
unfolding entered entered_row move_row
entered_row_lem a x ks =
    ap (λ (n : ℕ). opened (number_at (taken_number (move_at a 11) x)) n (counted_number (move_at a 10) (closed (move_at a 0) ks)))
    (sym (opened_length (λ j. move_at a (2 + j)) (move_at a 1)))

row_past : (a : ℕ) → 34 ≤ a → move_row a ≡ row 0 0 0 0 0 []
unfolding move_row opened
row_past a h =
    rw (
      sym (move_past a 0 (omega arith)),
      sym (move_past a 1 (omega arith)),
      sym (move_past a 6 (omega arith)),
      sym (move_past a 7 (omega arith)),
      sym (move_past a 10 (omega arith)),
      sym (move_past a 11 (omega arith)),
    )

-- moves 0 and 1, and from 34 on, are none
pub data NoMove (a : ℕ) : Type 0 where
  first : a < 2 → NoMove a
  past : 34 ≤ a → NoMove a

pub no_row : {a : ℕ} → NoMove a → move_row a ≡ row 0 0 0 0 0 []
unfolding move_row move_at moves opened
no_row {a = zero} (first h) = refl
no_row {a = suc zero} (first h) = refl
no_row {a = suc (suc a)} (first h) = absurd (omega arith)
no_row {a = a} (past h) = row_past a h

pub no_form : {a : ℕ} → NoMove a → move_at a 8 ≡ 0
unfolding move_at moves
no_form {a = zero} (first h) = refl
no_form {a = suc zero} (first h) = refl
no_form {a = suc (suc a)} (first h) = absurd (omega arith)
no_form {a = a} (past h) = sym (move_past a 8 (omega arith))

-- a is none of the n moves from s on
unfoldable pub NoneFrom : ℕ → ℕ → ℕ → Type 0
NoneFrom s a zero = Unit
NoneFrom s a (suc n) = NoneFrom s a n × (a ≡ n + s → ⊥)

none_below : (s a n : ℕ) → s ≤ a → NoneFrom s a n → n + s ≤ a
unfolding NoneFrom
none_below s a zero h e = omega arith
none_below s a (suc n) h e = let l = none_below s a n h e.0 in let d = e.1 in omega arith

pub none_first : (a : ℕ) → a ≤ 19 → NoneFrom 2 a 18 → NoMove a
none_first a h e = by (ltb a 2) refl
  where
    by : (b : Bool) → ltb a 2 ≡ b → NoMove a
    by true z = first (ltb-true a 2 z)
    by false z = let l = none_below 2 a 18 (ltb-false a 2 z) e in absurd (omega arith)

pub none_later : (a : ℕ) → (1 < a → 20 ≤ a) → NoneFrom 20 a 14 → NoMove a
none_later a h e = by (ltb a 2) refl
  where
    by : (b : Bool) → ltb a 2 ≡ b → NoMove a
    by true z = first (ltb-true a 2 z)
    by false z = past (none_below 20 a 14 (h (let l = ltb-false a 2 z in omega arith)) e)

-- ---- levels

pub level_up : (left : ℕ) → left + 1 ≡ level 2 left
unfolding level
level_up left = add-one left

pub level_less : (left : ℕ) → left - 1 ≡ level 0 left
unfolding level
level_less zero = refl
level_less (suc n) = omega arith

-- ---- frames are opened

pushed_twice : (l : List ℕ) (i v w : ℕ) → i + 1 < length l → stack (set (set l i v) (i + 1) w) (i + 2) ≡ w ∷ v ∷ stack l i
pushed_twice l i v w h =
    let z : i + 2 ≡ i + 1 + 1 = omega arith in
    let n = length-set l i v in
    rw (z, stack_pushed (set l i v) (i + 1) w (omega arith), stack_pushed l i v (omega arith))

module _ {st ar : List ℕ} {base x mode left : ℕ} {r : Standing} where
  pub opened_none : (r.mode ≡ mode) × (r.left ≡ left) × (r.top ≡ base) → Opened st ar base [] x mode left st ar r
  unfolding opened
  opened_none e =
      let t = e.2 in
      record {
        mode_is = e.0;
        left_is = e.1;
        tags_are = rw t;
        figures_are = rw t;
        top_is = omega arith;
        room = (refl, refl);
      }

  pub opened_one : {f : ℕ} → base + 1 < length st → base + 1 < length ar → r.mode ≡ mode → r.left ≡ left → r.top ≡ base + 1
      → Opened st ar base (f ∷ []) x mode left (set st base f) (set ar base x) r
  unfolding opened number_at
  opened_one {f} h k m l t =
      record {
        mode_is = m;
        left_is = l;
        tags_are = rw t (stack_pushed st base f (omega arith));
        figures_are = rw t (stack_pushed ar base x (omega arith));
        top_is = t;
        room = (length-set st base f, length-set ar base x);
      }

  pub opened_two : {f g : ℕ} → base + 1 < length st → base + 1 < length ar → r.mode ≡ mode → r.left ≡ left → r.top ≡ base + 2
      → Opened st ar base (g ∷ f ∷ []) x mode left (set (set st base f) (base + 1) g) (set (set ar base x) (base + 1) 0) r
  unfolding opened number_at
  opened_two {f} {g} h k m l t =
      record {
        mode_is = m;
        left_is = l;
        tags_are = rw t (pushed_twice st base f g h);
        figures_are = rw t (pushed_twice ar base x 0 k);
        top_is = t;
        room = (simp length-set, simp length-set);
      }

-- two and two more
pub opened_four : {st ar st₁ ar₁ st₂ ar₂ : List ℕ} {base e f g h m l mode left : ℕ} {q r : Standing}
    → Opened st ar base (f ∷ e ∷ []) 0 m l st₁ ar₁ q → Opened st₁ ar₁ (base + 2) (h ∷ g ∷ []) 0 mode left st₂ ar₂ r
    → Opened st ar base (h ∷ g ∷ f ∷ e ∷ []) 0 mode left st₂ ar₂ r
unfolding opened number_at
opened_four {base = base} a b =
    let t = a.top_is in
    let s = b.top_is in
    let u = a.tags_are in
    let v = a.figures_are in
    record {
      mode_is = b.mode_is;
      left_is = b.left_is;
      tags_are = b.tags_are ∙ rw (← t, u);
      figures_are = b.figures_are ∙ rw (← t, v);
      top_is = omega arith;
      room = (b.room.0 ∙ a.room.0, b.room.1 ∙ a.room.1);
    }

-- ---- a move is made

module _ {st ar ar₁ st₂ ar₂ : List ℕ} {left x base y lev a closes mode counts : ℕ} {fs : List ℕ} {p : Place} {r : Standing} where
  pub entered_by : (change takes : ℕ) → p.act ≡ a → move_row a ≡ row closes mode change counts takes fs
      → Lower p.top closes base → lev ≡ level change left → Counted ar base counts ar₁ → y ≡ taken_number takes x
      → Opened st ar₁ base fs y mode lev st₂ ar₂ r → Entered st ar left p x st₂ ar₂ r
  unfolding enter_row entered_row
  entered_by change takes e m o n c k f =
      let g = f.mode_is in
      let h = f.left_is in
      let i = f.tags_are in
      let j = f.figures_are in
      let u = o.is st in
      let v = o.is ar in
      let w = c.is in
      record {
        tags_are = rw (e, enter_row_lem a left (stack st p.top), m, g, h, i, u, n);
        figures_are = rw (e, entered_row_lem a x (stack ar p.top), m, j, k, w, v);
        room = (f.room.0, f.room.1 ∙ c.room);
      }

module _ {st ar st₂ ar₂ : List ℕ} {left x y lev a mode : ℕ} {fs : List ℕ} {p : Place} {r : Standing} where
  -- no frame is closed, and no statement counted
  pub opens : (change takes : ℕ) → p.act ≡ a → move_row a ≡ row 0 mode change 0 takes fs → lev ≡ level change left
      → y ≡ taken_number takes x → Opened st ar p.top fs y mode lev st₂ ar₂ r → Entered st ar left p x st₂ ar₂ r
  opens change takes e m n k f = entered_by change takes e m lower_none n counted_none k f

  -- a frame is closed
  pub closes_opens : {base : ℕ} (change takes : ℕ) → p.act ≡ a → move_row a ≡ row 1 mode change 0 takes fs → Lower p.top 1 base
      → lev ≡ level change left → y ≡ taken_number takes x → Opened st ar base fs y mode lev st₂ ar₂ r
      → Entered st ar left p x st₂ ar₂ r
  closes_opens change takes e m o n k f = entered_by change takes e m o n counted_none k f
