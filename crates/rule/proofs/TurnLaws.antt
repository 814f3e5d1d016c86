-- The nodes that a token makes: those of the frames that its move closes, and its own, are the nodes of the next state.
use mathlib.Core.Path.{◌≡◌, refl, sym, ap, ◌∙◌}
use mathlib.Core.Bool.{Bool, true, false}
use mathlib.Core.List.{List}
use Prim.Native.Nat.{ℕ, ◌-◌, ◌<◌, ◌≤◌}
use native.Mathlib.Omega.{arith}
use lib.Dec.{eqb, ltb}
use lib.ListN.{length, get_or}
use borrow.Author.Tests.{ltb-true, ltb-false}
use Rattle.rules.specs.Table.{Kind}
use Rattle.rules.specs.Table
use Rattle.grammar.specs.Token.{Token}
use Rattle.grammar.specs.Written.{Node, kind_number}
use Rattle.grammar.specs.Grammar.{nesting}
use Rattle.grammar.specs.machine.Reader.{State}
use Rattle.tokens.specs.declared.moves.Stack.{Stack}
use Rattle.tokens.specs.declared.moves.Standing.{Standing}
use Rattle.tokens.specs.Flat.{move_at, form_of, make, arity, sizes, figure_number, Frame}
use Rattle.tokens.specs.Flat.{Flat, flat, frames_of, nodes_of}
use Rattle.tokens.specs.Flat.{perform}
use Rattle.tokens.specs.Stand.{kind_of, figure, flat_of}
use Rattle.tokens.specs.Shape.{Shape, tags, forget, shape_of}
use Rattle.tokens.specs.Shape
use Rattle.tokens.specs.Arrays.{stack, Located}
use Rattle.tokens.proofs.ShapeLaws.{Leads, tags_of, step_leads, frames_few, levels_few}
use Rattle.tokens.proofs.ArrayLaws.{stack_length}
use Rattle.tokens.proofs.NodeLaws.{make_size, passes, nodes_length, Roomy, found_roomy, kind_few, step_grows}
use Rattle.rule.specs.declared.nodes.Nodes.{Nodes}
use Rattle.rule.specs.inside.Nodes.{Held, Making, Become, Made, Closing, Closed, closings, Frames, Descended}
use Rattle.rule.specs.inside.Turns.{Stands, Lowering, Lowered, Moving, Grown}
use Rattle.rule.proofs.DescentLaws.{Closable_all, Descent, descent_starts, descent_ends, descent_closes, descent_on}
use Rattle.rule.proofs.SeekLaws.{Passed, found_passed, hand_there, all_kinded, kind_named}

-- ---- frames above a place are closed

pub none_above : {K : Stack} {Ns : Nodes} {top to : ℕ} → Lowering K Ns top to → top ≤ to
    → Lowered K Ns top to Ns
unfolding closings
none_above {top = top} {to = to} L h =
    let z : top - to ≡ 0 = omega arith in
    record {
      become = λ fs ns F c. record { held = λ e H. rw z H; full = λ e H. let t = H.count_is in rw z (omega arith) };
      kept = record { most = L.most; same = λ e. e };
    }

pub some_above : {K : Stack} {Ns Ns₂ : Nodes} {top to : ℕ} → to < top
    → Descended Ns K top to Ns₂ → Lowered K Ns top to Ns₂
some_above h D = record { become = λ fs ns F c. D.become fs ns (F h) c; kept = D.kept }

-- `close_down`'s invariant: the frames from `top` down to i are closed, if there are any
pub record Lowers (Ns₀ : Nodes) (K : Stack) (top to : ℕ) (Ns : Nodes) (i : ℕ) : Type 0 where
  pub some : to < top → Descent Ns₀ K top to Ns i
  pub same : top ≤ to → Ns ≡ Ns₀

module _ {K : Stack} {Ns₀ : Nodes} {top to : ℕ} (L : Lowering K Ns₀ top to) where
  pub lowers_starts : Lowers Ns₀ K top to Ns₀ top
  lowers_starts = record { some = λ h. descent_starts (L.descends h); same = λ h. refl }

  module _ {Ns : Nodes} {i : ℕ} (G : Lowers Ns₀ K top to Ns i) where
    pub lowers_ends : i ≤ to → Lowered K Ns₀ top to Ns
    lowers_ends h = by (ltb to top) refl
      where
        by : (v : Bool) → ltb to top ≡ v → Lowered K Ns₀ top to Ns
        by true e = let l = ltb-true to top e in some_above l (descent_ends (L.descends l) (G.some l) h)
        by false e =
            let l = ltb-false to top e in
            let q = G.same l in
            rw q (none_above L l)

    module _ {j : ℕ} (h : to < i) (m : i ≤ top) (je : j ≡ i - 1) where
      lowers_down : to < top
      lowers_down = omega arith

      pub lowers_closes : Closing Ns (get_or K.tags j 0) (get_or K.figures j 0)
      lowers_closes = descent_closes (L.descends lowers_down) (G.some lowers_down) h je

      pub lowers_on : {Ns₂ : Nodes} → Closed Ns (get_or K.tags j 0) (get_or K.figures j 0) Ns₂ → Lowers Ns₀ K top to Ns₂ j
      lowers_on C = record { some = λ l. descent_on (L.descends l) (G.some l) h je C; same = λ l. absurd (omega arith) }

-- ---- `grow`: frames are closed, and a node is made of what they leave

module _ {K : Stack} {Ns : Nodes} {top to a : ℕ} (M : Moving K Ns top to a) where
  pub lowers : Lowering K Ns top to
  lowers =
      record {
        most = M.most;
        descends = λ h. record {
          most = M.most;
          fits = M.fits;
          some = λ f.
              let R = M.goes f in
              record { nodes = R.nodes; held = R.held; frames = R.frames; stands = R.stands h; closes = R.closes };
        };
      }

  module _ {Ns₁ : Nodes} (L : Lowered K Ns top to Ns₁) where
    pub grow_makes : Making Ns₁ (form_of (move_at a 8))
    grow_makes =
        record {
          most = L.kept.most;
          some = λ e.
              let R = M.goes (L.kept.same e) in
              record {
                nodes = closings (top - to) R.frames R.nodes;
                held = (L.become R.frames R.nodes R.stands R.closes).held e R.held;
                parts = R.parts;
              };
        }

    pub grow_made : {Ns₂ : Nodes} {x : ℕ}
        → Made Ns₁ (form_of (move_at a 8)) (move_at a 9) x Ns₂
        → Grown K Ns top to a x Ns₂
    grow_made {Ns₂ = Ns₂} {x = x} N =
        record {
          become = λ k fs ns q F o p. record {
            held = λ z H. (N.become k (closings (top - to) fs ns) q p).held z ((L.become fs ns F o).held (N.kept.same z) H);
            full = λ z H. by k fs ns q F o p z H (ltb 1024 Ns₁.count) refl;
          };
          kept = record { most = N.kept.most; same = λ e. L.kept.same (N.kept.same e) };
        }
      where
        by : (k : Kind) (fs : List Frame) (ns : List Node) → kind_number k ≡ move_at a 9 → (to < top → Frames fs K top ns)
            → Closable_all K.tags top to → arity (form_of (move_at a 8)) ≤ length (closings (top - to) fs ns) → 1024 < Ns₂.count
            → Held ns Ns → (v : Bool) → ltb 1024 Ns₁.count ≡ v
            → 1024 < sizes (make (form_of (move_at a 8)) k x (closings (top - to) fs ns))
        by k fs ns q F o p z H true e =
            let big = (L.become fs ns F o).full (ltb-true 1024 Ns₁.count e) H in
            let m = make_size (form_of (move_at a 8)) k x (closings (top - to) fs ns) p in
            omega arith
        by k fs ns q F o p z H false e =
            (N.become k (closings (top - to) fs ns) q p).full z ((L.become fs ns F o).held (ltb-false 1024 Ns₁.count e) H)

-- ---- a state and its move

tags_shape : (F : Flat) → tags_of (forget F) ≡ tags (frames_of F)
unfolding tags_of forget frames_of
tags_shape (flat mode left fs ns) = refl

abbrev made_nodes : (S : State nesting) (t : Token) {a : ℕ} {gs : List ℕ} → Leads S t a gs → List Node
made_nodes S t {a} l = make (form_of (move_at a 8)) (Table.kind_of (move_at a 9)) (figure_number (figure t)) l.nodes_left

made_nodes_lem : (S : State nesting) (t : Token) {a : ℕ} {gs : List ℕ} (l : Leads S t a gs) → nodes_of (flat_of l.state) ≡ made_nodes S t l
unfolding perform nodes_of
made_nodes_lem S t l = ap nodes_of l.leads

roomy : (S : State nesting) (t : Token) {a : ℕ} {gs : List ℕ} (l : Leads S t a gs) → Roomy a (nodes_of (flat_of S)) l.nodes_left
roomy S t l = found_roomy S (kind_of t) (kind_few t) l.found_is

module _ {K : Stack} {Ns : Nodes} {s : Standing} where
  pub tags_stand : (S : State nesting) → Stands S K Ns s → tags (frames_of (flat_of S)) ≡ stack K.tags s.top
  unfolding tags_of
  tags_stand S D = sym (tags_shape (flat_of S)) ∙ ap tags_of D.shaped

  -- where a move is found, what is left of the arrays
  pub left_passed : (S : State nesting) (t : Token) {a to : ℕ} → Stands S K Ns s → (l : Leads S t a (stack K.tags to))
      → Passed (kind_of t) (frames_of (flat_of S)) (nodes_of (flat_of S)) K.tags K.figures s.top to l.frames_left l.nodes_left
  left_passed S t {to = to} D l = found_passed (flat_of S) (kind_of t) K.tags K.figures s.top to (tags_stand S D) l.found_is l.tags_are

  frames_stand : (S : State nesting) (t : Token) {a to : ℕ} → Stands S K Ns s → Ns.count ≤ 1024
      → (l : Leads S t a (stack K.tags to))
      → to < s.top → Frames (frames_of (flat_of S)) K s.top (nodes_of (flat_of S))
  frames_stand S t {to = to} D f l h =
      let hand = hand_there (flat_of S) (kind_of t) K.tags s.top to (tags_stand S D) l.found_is l.tags_are h in
      let n = nodes_length S in
      record { tags_are = tags_stand S D; figures_are = D.figured f; kinded = all_kinded S; enough = omega arith }

  closes_above : (S : State nesting) (t : Token) {a to : ℕ} → Stands S K Ns s → Leads S t a (stack K.tags to)
      → Closable_all K.tags s.top to
  closes_above S t D l i a b = passes (get_or K.tags i 0) (kind_of t) (kind_few t) ((left_passed S t D l).passed i a b)

  pub moving : (S : State nesting) (t : Token) {a to : ℕ} → Stands S K Ns s → (l : Leads S t a (stack K.tags to))
      → s.top ≤ 1600 → Moving K Ns s.top to a
  moving S t D l top =
      record {
        most = D.most;
        fits = top;
        goes = λ f. record {
          frames = frames_of (flat_of S);
          nodes = nodes_of (flat_of S);
          held = D.held f;
          stands = frames_stand S t D f l;
          closes = closes_above S t D l;
          parts = let p = (left_passed S t D l).nodes_are in rw (← p) (roomy S t l).parts;
        };
      }

  -- the nodes of the state that a token leads to
  module _ {a to x : ℕ} {Ns₂ : Nodes} (G : Grown K Ns s.top to a x Ns₂)
      (S : State nesting) (t : Token) (D : Stands S K Ns s) (n : figure_number (figure t) ≡ x)
      (l : Leads S t a (stack K.tags to)) where
    becomes : Ns.count ≤ 1024 → Become (nodes_of (flat_of S)) (nodes_of (flat_of l.state)) Ns Ns₂
    becomes f =
        let p = (left_passed S t D l).nodes_are in
        let q = made_nodes_lem S t l in
        rw (q, n, p)
        (G.become (Table.kind_of (move_at a 9)) (frames_of (flat_of S)) (nodes_of (flat_of S)) (kind_named a) (frames_stand S t D f l)
        (closes_above S t D l) (rw (← p) (roomy S t l).parts))

    pub grown_held : Ns₂.count ≤ 1024 → Held (nodes_of (flat_of l.state)) Ns₂
    grown_held e = let f = G.kept.same e in (becomes f).held e (D.held f)

    pub grown_crowded : 1024 < Ns₂.count → 1024 < sizes (nodes_of (flat_of l.state))
    grown_crowded e = by (ltb 1024 Ns.count) refl
      where
        by : (c : Bool) → ltb 1024 Ns.count ≡ c → 1024 < sizes (nodes_of (flat_of l.state))
        by true f = let m = D.crowded (ltb-true 1024 Ns.count f) in let g = step_grows S t l.step_is in omega arith
        by false f = let h = ltb-false 1024 Ns.count f in (becomes h).full e (D.held h)

-- a move that is found leads on
pub leads : {K : Stack} {Ns : Nodes} {s : Standing} {a to : ℕ} (S : State nesting) (t : Token)
    → Stands S K Ns s
    → Located K.tags s (kind_of t) a to → eqb a 0 ≡ false → Leads S t a (stack K.tags to)
leads {K} {a = a} {to = to} S t D L h =
    step_leads S t a (stack K.tags to) (ap (λ (x : Shape). Shape.locate x (kind_of t)) D.shaped ∙ L.is) h

-- ---- what fits

module _ {K : Stack} {Ns : Nodes} {s : Standing} {S : State nesting} (D : Stands S K Ns s) where
  pub top_few : s.top ≤ 1543
  unfolding tags_of
  top_few =
      let f = frames_few S in
      let e : length (tags_of (shape_of S)) ≡ s.top = ap (λ (x : Shape). length (tags_of x)) D.shaped ∙ stack_length K.tags s.top in
      omega arith

  pub top_fits : s.top ≤ 1600
  top_fits = let t = top_few in omega arith

  pub level_fits : s.left ≤ 256
  unfolding Shape.left_of
  level_fits =
      let f = levels_few S in
      let e : Shape.left_of (shape_of S) ≡ s.left = ap Shape.left_of D.shaped in
      omega arith
