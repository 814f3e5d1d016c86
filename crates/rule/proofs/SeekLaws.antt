-- What a move that is found tells of the arrays: which frames are closed before it, and what is then left of them.
use mathlib.Core.Path.{◌≡◌, refl, sym, ap, ◌∙◌}
use mathlib.Core.Bool.{Bool, true, false, ◌&&◌, ◌||◌, cond}
use mathlib.Core.Logic.{◌⊎◌, inl, inr, ⊎_elim}
use mathlib.Core.List.{List, [], ◌∷◌}
use Prim.Native.Nat.{ℕ, zero, suc, ◌+◌, ◌-◌, ◌*◌, ◌<◌, ◌≤◌}
use native.Mathlib.Omega.{arith}
use lib.Dec.{eqb, ltb, leb, lit<}
use lib.ListN.{length, get_or}
use borrow.Author.Tests.{ne_eqb, eqb-true, eqb-false, ltb-true, ltb-false, leb-true}
use Rattle.rules.specs.Lists.{every, fetch}
use Rattle.rules.specs.Table
use Rattle.rules.proofs.ListLaws.{every_true}
use Rattle.grammar.specs.Written.{Node, kind_number, truth_number}
use Rattle.grammar.specs.machine.Reader.{Phrase, Open, State, want_statement, want_becomes, want_part, want_test, want_factor}
use Rattle.grammar.specs.machine.Reader.{want_open, have}
use Rattle.tokens.specs.Tables.{acts, moves}
use Rattle.tokens.specs.Flat.{act, move_at, Frame, tag_of, frame, closing, waiting_all, Figure, Flat, flat, frames_of, nodes_of}
use Rattle.tokens.specs.Flat.{at_hand, Found, found, seek_by, seek, row_of, locate}
use Rattle.tokens.specs.Stand.{frames, flat_of}
use Rattle.tokens.specs.Shape.{tags}
use Rattle.tokens.specs.Arrays.{stack}
use Rattle.tokens.proofs.ArrayLaws.{stack_length, move_past}
use Rattle.tokens.proofs.NodeLaws.{past_end}
use Rattle.rule.specs.inside.Nodes.{figures, Kinded, AllKinded, closings}

-- the frames fs stand up to `top`; a move is found at `to`
pub record Passed (k : ℕ) (fs : List Frame) (ns : List Node) (st ar : List ℕ) (top to : ℕ) (gs : List Frame)
    (ms : List Node) : Type 0 where
  pub below : to ≤ top
  pub nodes_are : ms ≡ closings (top - to) fs ns
  pub passed : (i : ℕ) → to ≤ i → i < top → act (get_or st i 0) k ≡ 1
  pub figures_are : figures fs ≡ stack ar top → figures gs ≡ stack ar to
  pub waits : waiting_all gs ≤ waiting_all fs

unfoldable PassedAt : ℕ → List Frame → List Node → List ℕ → List ℕ → ℕ → ℕ → Found → Type 0
PassedAt k fs ns st ar top to (found a gs ms) = tags gs ≡ stack st to → Passed k fs ns st ar top to gs ms

passed_none : (k : ℕ) (fs : List Frame) (ns : List Node) (st ar : List ℕ) (top to : ℕ) → tags fs ≡ stack st top → tags fs ≡ stack st to
    → Passed k fs ns st ar top to fs ns
unfolding closings
passed_none k fs ns st ar top to e g =
    let a = sym (stack_length st top) ∙ ap length (sym e ∙ g) ∙ stack_length st to in
    let z : top - to ≡ 0 = omega arith in
    record {
      below = omega arith;
      nodes_are = rw z;
      passed = λ i l h. absurd (omega arith);
      figures_are = λ f. rw a at f;
      waits = omega arith;
    }

passed_on : (k : ℕ) (f : Frame) (fs : List Frame) (ns : List Node) (st ar : List ℕ) (top to : ℕ) (F : Found) → tag_of f ≡ get_or st top 0
    → act (tag_of f) k ≡ 1 → PassedAt k fs (closing f ns) st ar top to F → PassedAt k (f ∷ fs) ns st ar (suc top) to F
unfolding PassedAt closings figures stack waiting_all
passed_on k f fs ns st ar top to (found a gs ms) t c later = λ g. next (later g)
  where
    next : Passed k fs (closing f ns) st ar top to gs ms → Passed k (f ∷ fs) ns st ar (suc top) to gs ms
    next P =
        let b = P.below in
        let z : suc top - to ≡ suc (top - to) = omega arith in
        record {
          below = omega arith;
          nodes_are = P.nodes_are ∙ rw z;
          passed = λ i l h. at (eqb i top) refl l h;
          figures_are = λ e. P.figures_are cc;
          waits = let w = P.waits in omega arith;
        }
      where
        at : {i : ℕ} (b : Bool) → eqb i top ≡ b → to ≤ i → i < suc top → act (get_or st i 0) k ≡ 1
        at {i} true q l h = let z : i ≡ top = eqb-true i top q in rw (z, ← t) c
        at {i} false q l h = P.passed i l (apart i (eqb-false i top q) h)
          where
            apart : (i : ℕ) → (i ≡ top → ⊥) → i < suc top → i < top
            apart i n h = omega arith

seek_passed : (k : ℕ) (fs : List Frame) (ns : List Node) (st ar : List ℕ) (top to : ℕ) → tags fs ≡ stack st top
    → PassedAt k fs ns st ar top to (seek k fs ns)
unfolding PassedAt seek seek_by tags stack
seek_passed k [] ns st ar top to e = λ g. passed_none k [] ns st ar top to e g
seek_passed k (f ∷ fs) ns st ar zero to e = absurd (let l = ap length e in omega arith)
seek_passed k (f ∷ fs) ns st ar (suc top) to e = by (eqb (act (tag_of f) k) 1) refl (λ d. seek_passed k fs (closing f ns) st ar top to d)
  where
    by : (b : Bool) → eqb (act (tag_of f) k) 1 ≡ b
        → (tags fs ≡ stack st top → PassedAt k fs (closing f ns) st ar top to (seek k fs (closing f ns)))
        → PassedAt k (f ∷ fs) ns st ar (suc top) to (seek_by b (found (act (tag_of f) k) (f ∷ fs) ns) (seek k fs (closing f ns)))
    by true q later =
        let t : tag_of f ≡ get_or st top 0 = cc in
        let d : tags fs ≡ stack st top = cc in
        passed_on k f fs ns st ar top to (seek k fs (closing f ns)) t (eqb-true _ _ q) (later d)
    by false q later = λ g. passed_none k (f ∷ fs) ns st ar (suc top) to e g

flat_passed : (F : Flat) (k : ℕ) (st ar : List ℕ) (top to : ℕ) → tags (frames_of F) ≡ stack st top
    → PassedAt k (frames_of F) (nodes_of F) st ar top to (locate F k)
unfolding frames_of nodes_of locate seek_by PassedAt
flat_passed (flat mode left fs ns) k st ar top to e = by (eqb mode 6)
  where
    by : (b : Bool) → PassedAt k fs ns st ar top to (seek_by b (found (act (row_of mode left) k) fs ns) (seek k fs ns))
    by true = seek_passed k fs ns st ar top to e
    by false = λ g. passed_none k fs ns st ar top to e g

pub found_passed : (F : Flat) (k : ℕ) {a : ℕ} {gs : List Frame} {ms : List Node} (st ar : List ℕ) (top to : ℕ)
    → tags (frames_of F) ≡ stack st top
    → locate F k ≡ found a gs ms → tags gs ≡ stack st to → Passed k (frames_of F) (nodes_of F) st ar top to gs ms
unfolding PassedAt
found_passed F k st ar top to e q g = (rw q at (flat_passed F k st ar top to e)) g

-- frames are closed only where a phrase is at hand
pub hand_there : (F : Flat) (k : ℕ) {a : ℕ} {gs : List Frame} {ms : List Node} (st : List ℕ) (top to : ℕ)
    → tags (frames_of F) ≡ stack st top
    → locate F k ≡ found a gs ms → tags gs ≡ stack st to → to < top → at_hand F ≡ 1
unfolding frames_of locate seek_by at_hand
hand_there (flat mode left fs ns) k {a} {gs} {ms} st top to e q g h = by (eqb mode 6) q
  where
    by : (b : Bool) → seek_by b (found (act (row_of mode left) k) fs ns) (seek k fs ns) ≡ found a gs ms → ◌≡◌ {A = ℕ} (cond b 1 0) 1
    by true p = refl
    by false p =
        let z : fs ≡ gs = cc in
        let l = sym (stack_length st top) ∙ ap length (sym e ∙ ap tags z ∙ g) ∙ stack_length st to in
        absurd (omega arith)

-- ---- frames from 29 on have the kind of their node

module _ {limit : ℕ} where
  kinded : {h : Phrase} {n : ℕ} (K : Open limit h n) → AllKinded (frames K)
  unfolding frames AllKinded Kinded
  kinded Open.whole = tt
  kinded (Open.follow s K) = kinded K
  kinded (Open.then_branch b K) = (lit< tt, kinded K)
  kinded (Open.else_branch b p K) = (lit< tt, kinded K)
  kinded (Open.loop_body b K) = (lit< tt, kinded K)
  kinded (Open.in_row K) = (lit< tt, kinded K)
  kinded (Open.if_test K) = (lit< tt, kinded K)
  kinded (Open.while_test K) = (lit< tt, kinded K)
  kinded (Open.squared K) = (lit< tt, kinded K)
  kinded (Open.choose_test K) = (lit< tt, kinded K)
  kinded (Open.first_part K) = kinded K
  kinded (Open.next_part b K) = (lit< tt, kinded K)
  kinded (Open.plain K) = kinded K
  kinded (Open.negated K) = (lit< tt, kinded K)
  kinded (Open.assigning x K) = (lit< tt, kinded K)
  kinded (Open.left_side K) = (lit< tt, kinded K)
  kinded (Open.right_side o a K) = (tt, kinded K)
  kinded (Open.bracketed K) = (lit< tt, kinded K)
  kinded (Open.choose_first b K) = (lit< tt, kinded K)
  kinded (Open.choose_second b x K) = (lit< tt, kinded K)
  kinded (Open.first_term K) = (lit< tt, kinded K)
  kinded (Open.next_term o a K) = (tt, kinded K)
  kinded (Open.first_factor K) = kinded K
  kinded (Open.next_factor o a K) = (tt, kinded K)

  pub all_kinded : (S : State limit) → AllKinded (frames_of (flat_of S))
  unfolding flat_of frames_of AllKinded Kinded
  all_kinded (want_statement n K) = kinded K
  all_kinded (want_becomes n x K) = (lit< tt, kinded K)
  all_kinded (want_part n K) = kinded K
  all_kinded (want_test n K) = kinded K
  all_kinded (want_factor n K) = kinded K
  all_kinded (want_open n K) = kinded K
  all_kinded (have h n K v) = kinded K

-- ---- the node of a move

move_small : (test : ℕ → Bool) → every test 34 ≡ true → (a : ℕ) → a < 34 → test a ≡ true
move_small test e a h = every_true test 34 e a h

kind_named_below : (a : ℕ) → a < 34 → eqb (kind_number (Table.kind_of (move_at a 9))) (move_at a 9) ≡ true
unfolding every Table.kind_of fetch kind_number truth_number move_at moves
kind_named_below = move_small (λ a. eqb (kind_number (Table.kind_of (move_at a 9))) (move_at a 9)) refl

no_kind : kind_number (Table.kind_of 0) ≡ 0
unfolding Table.kind_of fetch kind_number
no_kind = refl

pub kind_named : (a : ℕ) → kind_number (Table.kind_of (move_at a 9)) ≡ move_at a 9
kind_named a = by (ltb a 34) refl
  where
    by : (b : Bool) → ltb a 34 ≡ b → kind_number (Table.kind_of (move_at a 9)) ≡ move_at a 9
    by true e = eqb-true _ _ (kind_named_below a (ltb-true a 34 e))
    by false e = let z = move_past a 9 (let l = ltb-false a 34 e in omega arith) in rw (← z) no_kind

form_six_below : (a : ℕ) → a < 34 → leb (move_at a 8) 5 ≡ true
unfolding every move_at moves
form_six_below = move_small (λ a. leb (move_at a 8) 5) refl

pub form_six : (a : ℕ) → move_at a 8 ≤ 5
form_six a = by (ltb a 34) refl
  where
    by : (b : Bool) → ltb a 34 ≡ b → move_at a 8 ≤ 5
    by true e = leb-true _ _ (form_six_below a (ltb-true a 34 e))
    by false e = let z = move_past a 8 (let l = ltb-false a 34 e in omega arith) in omega arith

-- ---- a statement is counted only where a row is open

counts_right : ℕ → ℕ → Bool
counts_right f k = eqb (move_at (act f k) 10) 0 || (eqb f 19 && eqb (move_at (act f k) 0) 0)

counts_right_everywhere : every (λ f. every (counts_right f) 32) 32 ≡ true
unfolding every counts_right move_at moves act acts
counts_right_everywhere = refl

pub data Counting (a : ℕ) : List Frame → Type 0 where
  no_count : {gs : List Frame} → move_at a 10 ≡ 0 → Counting a gs
  in_row : {x : Figure} {gs : List Frame} → move_at a 0 ≡ 0 → Counting a (frame 19 x ∷ gs)

pub no_act : (f k : ℕ) → 32 ≤ f → act f k ≡ 0
unfolding act acts
no_act f k h = past_end acts (32 * f + k) (omega arith)

nothing_counted : move_at 0 10 ≡ 0
unfolding move_at moves
nothing_counted = refl

row_counts : (f k : ℕ) → k < 32 → (move_at (act f k) 10 ≡ 0) ⊎ ((f ≡ 19) × (move_at (act f k) 0 ≡ 0))
unfolding counts_right
row_counts f k l = by (ltb f 32) refl
  where
    split : (b c d : Bool) → eqb (move_at (act f k) 10) 0 ≡ b → eqb f 19 ≡ c → eqb (move_at (act f k) 0) 0 ≡ d → (b || (c && d)) ≡ true
        → (move_at (act f k) 10 ≡ 0) ⊎ ((f ≡ 19) × (move_at (act f k) 0 ≡ 0))
    split true c d e g h q = inl (eqb-true _ _ e)
    split false true true e g h q = inr (eqb-true _ _ g, eqb-true _ _ h)
    split false true false e g h q = let z : ◌≡◌ {A = ℕ} 0 1 = cc in absurd (omega arith)
    split false false d e g h q = let z : ◌≡◌ {A = ℕ} 0 1 = cc in absurd (omega arith)

    by : (b : Bool) → ltb f 32 ≡ b → (move_at (act f k) 10 ≡ 0) ⊎ ((f ≡ 19) × (move_at (act f k) 0 ≡ 0))
    by true e =
        split _ _ _ refl refl refl
        (every_true (counts_right f) 32 (every_true (λ f. every (counts_right f) 32) 32 counts_right_everywhere f (ltb-true f 32 e)) k l)
    by false e = let z = no_act f k (ltb-false f 32 e) in inl (rw z nothing_counted)

here_counting : (k : ℕ) → k < 32 → (f : Frame) (fs : List Frame) → Counting (act (tag_of f) k) (f ∷ fs)
unfolding tag_of
here_counting k l (frame f x) fs = ⊎_elim no_count (λ p. rows p.0 p.1) (row_counts f k l)
  where
    rows : f ≡ 19 → move_at (act f k) 0 ≡ 0 → Counting (act f k) (frame f x ∷ fs)
    rows e h = rw e (in_row (rw e at h))

unfoldable CountingIn : Found → Type 0
CountingIn (found a gs ms) = Counting a gs

seek_counting : (k : ℕ) → k < 32 → (fs : List Frame) (ns : List Node) → CountingIn (seek k fs ns)
unfolding CountingIn seek seek_by
seek_counting k l [] ns = no_count nothing_counted
seek_counting k l (f ∷ fs) ns = by (eqb (act (tag_of f) k) 1) (seek_counting k l fs (closing f ns))
  where
    by : (b : Bool) → CountingIn (seek k fs (closing f ns))
        → CountingIn (seek_by b (found (act (tag_of f) k) (f ∷ fs) ns) (seek k fs (closing f ns)))
    by true later = later
    by false later = here_counting k l f fs

want_no_row : (mode left : ℕ) → mode < 6 → row_of mode left ≡ 19 → ⊥
unfolding row_of
want_no_row mode zero h e = omega arith
want_no_row mode (suc n) h e = omega arith

want_counting : (mode left k : ℕ) (fs : List Frame) (ns : List Node) → mode < 6 → k < 32 → CountingIn (locate (flat mode left fs ns) k)
unfolding CountingIn locate seek_by
want_counting mode left k fs ns h l =
    let z = ne_eqb mode 6 (λ e. omega arith) in
    rw z (⊎_elim no_count (λ p. absurd (want_no_row mode left h p.0)) (row_counts (row_of mode left) k l))

have_counting : (left k : ℕ) (fs : List Frame) (ns : List Node) → k < 32 → CountingIn (locate (flat 6 left fs ns) k)
unfolding locate seek_by
have_counting left k fs ns l = seek_counting k l fs ns

counting : {limit : ℕ} (S : State limit) (k : ℕ) → k < 32 → CountingIn (locate (flat_of S) k)
unfolding flat_of
counting (want_statement n K) k l = want_counting 0 n k _ _ (lit< tt) l
counting (want_becomes n x K) k l = want_counting 1 n k _ _ (lit< tt) l
counting (want_part n K) k l = want_counting 2 n k _ _ (lit< tt) l
counting (want_test n K) k l = want_counting 3 n k _ _ (lit< tt) l
counting (want_factor n K) k l = want_counting 4 n k _ _ (lit< tt) l
counting (want_open n K) k l = want_counting 5 n k _ _ (lit< tt) l
counting (have h n K v) k l = have_counting n k _ _ l

pub found_counting : {limit : ℕ} (S : State limit) (k : ℕ) → k < 32 → {a : ℕ} {gs : List Frame} {ms : List Node}
    → locate (flat_of S) k ≡ found a gs ms → Counting a gs
unfolding CountingIn
found_counting S k l e = rw e at (counting S k l)
