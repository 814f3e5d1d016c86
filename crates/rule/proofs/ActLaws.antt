-- Which moves are found: below 20 where a phrase begins, from 20 on where one is at hand.
use mathlib.Core.Path.{◌≡◌, refl, sym, ap, ◌∙◌}
use mathlib.Core.Bool.{Bool, true, false, ◌||◌}
use mathlib.Core.List.{List, [], ◌∷◌}
use Prim.Native.Nat.{ℕ, zero, suc, ◌<◌, ◌≤◌}
use native.Mathlib.Omega.{arith}
use lib.ListN.{length}
use lib.Dec.{eqb, ltb, leb, lit<, lit≤}
use borrow.Author.Tests.{eq-eqb, ne_eqb, le-ltb, ltb-true, ltb-false, leb-true}
use Rattle.rules.specs.Lists.{every}
use Rattle.rules.proofs.ListLaws.{every_true}
use Rattle.grammar.specs.machine.Reader.{Phrase, Open, State, want_statement, want_becomes, want_part, want_test, want_factor}
use Rattle.grammar.specs.machine.Reader.{want_open, have}
use Rattle.tokens.specs.declared.moves.Standing.{Standing}
use Rattle.tokens.specs.Tables.{acts}
use Rattle.tokens.specs.Flat.{act, Frame, tag_of, frames_of, row_of}
use Rattle.tokens.specs.Stand.{frames, flat_of}
use Rattle.tokens.specs.Shape.{Shape, shape, tags, forget, shape_of, found, seek_by, seek, locate}
use Rattle.tokens.specs.Arrays.{stack, standing, Located}
use Rattle.tokens.proofs.ArrayLaws.{stack_length}
use Rattle.rule.proofs.SeekLaws.{no_act}

unfoldable mode_of : Shape → ℕ
mode_of (shape mode left fs) = mode

-- frames have rows of their own in the table, from 13 on
unfoldable AllHigh : List Frame → Type 0
AllHigh [] = Unit {0}
AllHigh (f ∷ fs) = (12 < tag_of f) × AllHigh fs

module _ {limit : ℕ} where
  high : {h : Phrase} {n : ℕ} (K : Open limit h n) → AllHigh (frames K)
  unfolding frames AllHigh tag_of
  high Open.whole = tt
  high (Open.follow s K) = high K
  high (Open.then_branch b K) = (lit< tt, high K)
  high (Open.else_branch b p K) = (lit< tt, high K)
  high (Open.loop_body b K) = (lit< tt, high K)
  high (Open.in_row K) = (lit< tt, high K)
  high (Open.if_test K) = (lit< tt, high K)
  high (Open.while_test K) = (lit< tt, high K)
  high (Open.squared K) = (lit< tt, high K)
  high (Open.choose_test K) = (lit< tt, high K)
  high (Open.first_part K) = high K
  high (Open.next_part b K) = (lit< tt, high K)
  high (Open.plain K) = high K
  high (Open.negated K) = (lit< tt, high K)
  high (Open.assigning x K) = (lit< tt, high K)
  high (Open.left_side K) = (lit< tt, high K)
  high (Open.right_side o a K) = (lit< tt, high K)
  high (Open.bracketed K) = (lit< tt, high K)
  high (Open.choose_first b K) = (lit< tt, high K)
  high (Open.choose_second b x K) = (lit< tt, high K)
  high (Open.first_term K) = (lit< tt, high K)
  high (Open.next_term o a K) = (lit< tt, high K)
  high (Open.first_factor K) = high K
  high (Open.next_factor o a K) = (lit< tt, high K)

  all_high : (S : State limit) → AllHigh (frames_of (flat_of S))
  unfolding flat_of frames_of AllHigh tag_of
  all_high (want_statement n K) = high K
  all_high (want_becomes n x K) = (lit< tt, high K)
  all_high (want_part n K) = high K
  all_high (want_test n K) = high K
  all_high (want_factor n K) = high K
  all_high (want_open n K) = high K
  all_high (have h n K v) = high K

  mode_few : (S : State limit) → mode_of (shape_of S) ≤ 6
  unfolding flat_of forget mode_of
  mode_few (want_statement n K) = lit≤ tt
  mode_few (want_becomes n x K) = lit≤ tt
  mode_few (want_part n K) = lit≤ tt
  mode_few (want_test n K) = lit≤ tt
  mode_few (want_factor n K) = lit≤ tt
  mode_few (want_open n K) = lit≤ tt
  mode_few (have h n K v) = lit≤ tt

first_moves : (r k : ℕ) → r < 13 → k < 32 → leb (act r k) 19 ≡ true
unfolding every act acts
first_moves r k h l =
    every_true (λ k. leb (act r k) 19) 32 (every_true (λ r. every (λ k. leb (act r k) 19) 32) 13 refl r h) k l

row_few : (mode left : ℕ) → mode ≤ 5 → row_of mode left < 13
unfolding row_of
row_few mode zero h = omega arith
row_few mode (suc n) h = omega arith

pub first_move : {st : List ℕ} {s : Standing} {k a t : ℕ} {limit : ℕ} (S : State limit) → shape_of S ≡ standing st s → (s.mode ≡ 6 → ⊥)
    → k < 32 → Located st s k a t → a ≤ 19
unfolding mode_of locate seek_by
first_move {st} {s} {k} {a} {t} S e m h l =
    let f = mode_few S in
    let g : mode_of (shape_of S) ≡ s.mode = ap mode_of e in
    let z : found (act (row_of s.mode s.left) k) (stack st s.top) ≡ found a (stack st t) =
    rw (ne_eqb s.mode 6 m) at l.is in
    let q : act (row_of s.mode s.left) k ≡ a = cc in
    let d = differs s.mode m (omega arith) in
    let u : act (row_of s.mode s.left) k ≤ 19 =
    leb-true _ _ (first_moves (row_of s.mode s.left) k (row_few s.mode s.left d) h) in
    omega arith
  where
    differs : (n : ℕ) → (n ≡ 6 → ⊥) → n ≤ 6 → n ≤ 5
    differs n m l = omega arith

-- and no frame is closed
pub first_top : {st : List ℕ} {s : Standing} {k a t : ℕ} → (s.mode ≡ 6 → ⊥) → Located st s k a t → t ≡ s.top
unfolding locate seek_by
first_top {st} {s} {k} {a} {t} m l =
    let z : found (act (row_of s.mode s.left) k) (stack st s.top) ≡ found a (stack st t) = rw (ne_eqb s.mode 6 m) at l.is in
    let q : stack st s.top ≡ stack st t = cc in
    sym (stack_length st t) ∙ sym (ap length q) ∙ stack_length st s.top

later_moves : (f k : ℕ) → f < 32 → k < 32 → (ltb f 13 || (leb (act f k) 1 || leb 20 (act f k))) ≡ true
unfolding every act acts
later_moves f k h l =
    every_true (λ k. ltb f 13 || (leb (act f k) 1 || leb 20 (act f k))) 32
    (every_true (λ f. every (λ k. ltb f 13 || (leb (act f k) 1 || leb 20 (act f k))) 32) 32 refl f h) k l

-- a test of three parts whose first fails
rest_of : (b c : Bool) → b ≡ false → (b || c) ≡ true → c ≡ true
rest_of true c e h = let z : ◌≡◌ {A = ℕ} 0 1 = cc in absurd (omega arith)
rest_of false c e h = h

later : (a : ℕ) → (leb a 1 || leb 20 a) ≡ true → 1 < a → 20 ≤ a
later a h l = by (leb a 1) refl
  where
    by : (b : Bool) → leb a 1 ≡ b → 20 ≤ a
    by true e = let m = leb-true a 1 e in absurd (omega arith)
    by false e = leb-true 20 a (rest_of (leb a 1) (leb 20 a) e h)

moved_late : (f k : ℕ) → 12 < f → k < 32 → 1 < act f k → 20 ≤ act f k
moved_late f k h l m = by (ltb f 32) refl
  where
    by : (b : Bool) → ltb f 32 ≡ b → 20 ≤ act f k
    by true e =
        later (act f k) (rest_of (ltb f 13) (leb (act f k) 1 || leb 20 (act f k)) (le-ltb f 13 (omega arith)) (later_moves f k (ltb-true f 32 e) l)) m
    by false e = let z = no_act f k (ltb-false f 32 e) in absurd (omega arith)

sought_late : (k : ℕ) (fs : List Frame) {a : ℕ} {gs : List ℕ} → k < 32 → AllHigh fs → seek k (tags fs) ≡ found a gs → 1 < a → 20 ≤ a
unfolding seek seek_by tags AllHigh
sought_late k [] {a} l h e m = let z : ◌≡◌ {A = ℕ} 0 a = cc in absurd (omega arith)
sought_late k (f ∷ fs) {a} {gs} l h e m = by (λ q. sought_late k fs l h.1 q m) (eqb (act (tag_of f) k) 1) e
  where
    by : (seek k (tags fs) ≡ found a gs → 20 ≤ a) → (b : Bool)
        → seek_by b (found (act (tag_of f) k) (tag_of f ∷ tags fs)) (seek k (tags fs)) ≡ found a gs → 20 ≤ a
    by later true q = later q
    by later false q =
        let z : act (tag_of f) k ≡ a = cc in
        let u = moved_late (tag_of f) k h.0 l (omega arith) in
        omega arith

pub later_move : {st : List ℕ} {s : Standing} {k a t : ℕ} {limit : ℕ} (S : State limit) → tags (frames_of (flat_of S)) ≡ stack st s.top
    → s.mode ≡ 6 → k < 32 → Located st s k a t → 1 < a → 20 ≤ a
unfolding locate seek_by
later_move {st} {s} {k} {a} {t} S e m h l g =
    let z : seek k (stack st s.top) ≡ found a (stack st t) = rw (eq-eqb s.mode 6 m) at l.is in
    sought_late k (frames_of (flat_of S)) h (all_high S) (ap (seek k) e ∙ z) g
