-- A turn where a phrase begins, and one after a phrase: which moves there are, and that an operand is taken at once.
use mathlib.Core.Path.{◌≡◌, refl}
use mathlib.Core.Bool.{Bool, true, false}
use mathlib.Core.Logic.{◌⊎◌, inl, inr}
use mathlib.Core.List.{List}
use Prim.Native.Nat.{ℕ, ◌-◌, ◌<◌, ◌≤◌}
use native.Mathlib.Omega.{arith}
use lib.Dec.{eqb, ltb}
use lib.ListN.{length, get_or}
use borrow.Author.Tests.{eqb-true, eqb-false, ltb-true, ltb-false}
use Rattle.tokens.specs.declared.Found.{Found}
use Rattle.tokens.specs.declared.moves.Place.{Place}
use Rattle.tokens.specs.declared.moves.Stack.{Stack}
use Rattle.tokens.specs.declared.moves.Standing.{Standing}
use Rattle.tokens.specs.Tables.{moves}
use Rattle.tokens.specs.Flat.{leaf, move_at, form_of, opened, level}
use Rattle.tokens.specs.Stand.{kind_of}
use Rattle.tokens.specs.Arrays.{standing, taken_number, Located, Entered}
use Rattle.tokens.specs.Scan.{StuckAt}
use Rattle.tokens.specs.Quick.{class_of}
use Rattle.tokens.specs.Taken.{AtClass, Taken}
use Rattle.tokens.proofs.MoveLaws.{move_row, opened_none, opens}
use Rattle.tokens.proofs.NodeLaws.{kind_few}
use Rattle.rule.specs.declared.nodes.Nodes.{Nodes}
use Rattle.rule.specs.declared.turns.Next.{Next}
use Rattle.rule.specs.inside.Nodes.{Making, Made}
use Rattle.rule.specs.inside.Turns.{Lowered, Performing, Moved, BeforeTurn, NextIs, Turned, Stuck}
use Rattle.rule.proofs.MakeLaws.{own_makes, own_made}
use Rattle.rule.proofs.ActLaws.{first_move, first_top, later_move}
use Rattle.rule.proofs.TurnLaws.{none_above, tags_stand, top_fits}
use Rattle.rule.proofs.EndLaws.{wanting_open, turn_stuck, turn_lowers, turn_performs, turn_moved}
use Rattle.rule.proofs.ReadLaws.{next_token, next_stuck, none_end}

-- ---- a move is made: its node, and its frames

pub moved : {K K₂ : Stack} {Ns Ns₂ : Nodes} {left : ℕ} {p : Place} {x : ℕ} {s : Standing}
    → Made Ns (form_of (move_at p.act 8)) (move_at p.act 9) x Ns₂ → Entered K.tags K.figures left p x K₂.tags K₂.figures s
    → Moved K Ns left p x K₂ Ns₂ s
moved M E = record { made = M; entered = E }

module _ {text : List ℕ} {K : Stack} {Ns : Nodes} {s : Standing} {at : ℕ}
    (B : BeforeTurn text at K Ns s) {n : Next} (N : NextIs text at K.tags s n) where
  -- ---- where a phrase begins

  module _ (m : s.mode ≡ 6 → ⊥) (h : at < length text) where
    located : Located K.tags s (kind_of (N.token h).0) n.place.act n.place.top
    located = (N.token h).3

    pub begin_few : n.place.act ≤ 19
    begin_few =
        let k = kind_few (N.token h).0 in
        first_move B.reading.state B.reading.stands.shaped m (omega arith) located

    -- no frame is closed
    pub begin_lowered : Lowered K Ns s.top n.place.top Ns
    begin_lowered = let t = first_top m located in none_above (turn_lowers B N) (omega arith)

  -- ---- after a phrase, or at the end

  module _ (m : s.mode ≡ 6) where
    pub later_late : (length text ≤ at → n.place.act ≡ 0) → 1 < n.place.act → 20 ≤ n.place.act
    later_late z g = by (ltb at (length text)) refl
      where
        by : (c : Bool) → ltb at (length text) ≡ c → 20 ≤ n.place.act
        by true q =
            let h = ltb-true at (length text) q in
            let k = kind_few (N.token h).0 in
            later_move B.reading.state (tags_stand B.reading.state B.reading.stands) m (omega arith) (N.token h).3 g
        by false q = let y = z (ltb-false at (length text) q) in absurd (omega arith)

-- ---- an operand: a leaf, and no more

two_kinds : (k : ℕ) → 27 ≤ k → k < 29 → (k ≡ 27) ⊎ (k ≡ 28)
two_kinds k h l = by (eqb k 27) refl
  where
    by : (b : Bool) → eqb k 27 ≡ b → (k ≡ 27) ⊎ (k ≡ 28)
    by true e = inl (eqb-true k 27 e)
    by false e = inr (let d = eqb-false k 27 e in omega arith)

module _ {Ns : Nodes} {k : ℕ} (h : 27 ≤ k) (l : k < 29) where
  pub operand_makes : Making Ns (form_of (move_at (k - 12) 8)) → Making Ns leaf
  unfolding form_of move_at moves
  operand_makes M = by (two_kinds k h l)
    where
      by : (k ≡ 27) ⊎ (k ≡ 28) → Making Ns leaf
      by (inl e) = own_makes {a = k - 12} {k = 15} (let q = e in omega arith) refl M
      by (inr e) = own_makes {a = k - 12} {k = 16} (let q = e in omega arith) refl M

  pub operand_made : {Ns₂ : Nodes} {x : ℕ} → Made Ns leaf (k - 26) x Ns₂
      → Made Ns (form_of (move_at (k - 12) 8)) (move_at (k - 12) 9) x Ns₂
  unfolding form_of move_at moves
  operand_made {Ns₂} {x} M = by (two_kinds k h l)
    where
      by : (k ≡ 27) ⊎ (k ≡ 28) → Made Ns (form_of (move_at (k - 12) 8)) (move_at (k - 12) 9) x Ns₂
      by (inl e) = own_made {a = k - 12} {k = 15} (let q = e in omega arith) refl (let q = e in let z : 1 ≡ k - 26 = omega arith in z) M
      by (inr e) = own_made {a = k - 12} {k = 16} (let q = e in omega arith) refl (let q = e in let z : 2 ≡ k - 26 = omega arith in z) M

module _ {k : ℕ} (h : 27 ≤ k) (l : k < 29) where
  pub operand_entered : {st ar : List ℕ} {left top x : ℕ} {s : Standing} → (s.mode ≡ 6) × (s.left ≡ left) × (s.top ≡ top)
      → Entered st ar left (record { act = k - 12; top = top }) x st ar s
  unfolding move_row move_at moves opened level taken_number
  operand_entered {st} {ar} {left} {top} {x} {s} q = by (two_kinds k h l)
    where
      by : (k ≡ 27) ⊎ (k ≡ 28) → Entered st ar left (record { act = k - 12; top = top }) x st ar s
      by (inl e) = opens {a = 15} 1 0 (let q = e in omega arith) refl refl refl (opened_none q)
      by (inr e) = opens {a = 16} 1 0 (let q = e in omega arith) refl refl refl (opened_none q)

-- ---- the turn where a phrase begins

module _ {text : List ℕ} {K : Stack} {Ns : Nodes} {s : Standing} {at : ℕ}
    (B : BeforeTurn text at K Ns s) (m : s.mode ≡ 6 → ⊥) where
  pub begin_ended : length text ≤ at → Stuck text at
  begin_ended h = turn_stuck B (none_end h (wanting_open m))

  pub at_class : {class : ℕ} → at < length text → class ≡ class_of (get_or text at 0) → AtClass text at class s
  at_class h e = record { fits = top_fits B.reading.stands; inside = h; no_blank = B.no_blank h; is = e }

  pub begin_stuck : {place : ℕ} → StuckAt text at (standing K.tags s) place → at < length text → Stuck text place
  begin_stuck a h = turn_stuck B (next_stuck a h)

  module _ {t : Found} (T : Taken text at K.tags s t) (h : at < length text) where
    pub begin_performs : Performing K Ns s.left t.place
    begin_performs = let N = next_token T h in turn_performs B N (begin_lowered B N m h)

    pub begin_acts : t.place.act ≤ 19
    begin_acts = begin_few B (next_token T h) m h

    pub begin_turned : {K₂ : Stack} {Ns₂ : Nodes} {s₂ : Standing}
        → Moved K Ns s.left t.place t.number K₂ Ns₂ s₂
        → Turned text at K₂ Ns₂ s₂ t.end
    begin_turned M = let N = next_token T h in turn_moved B N (begin_lowered B N m h) M
