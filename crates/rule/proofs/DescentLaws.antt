-- Frames are closed one after the other: `close_down`'s invariant, at its start, with one frame more, and at its end.
use mathlib.Core.Path.{◌≡◌, refl, sym, ap, ◌∙◌}
use mathlib.Core.Bool.{Bool, true, false}
use mathlib.Core.List.{List, [], ◌∷◌}
use Prim.Native.Nat.{ℕ, zero, suc, ◌+◌, ◌-◌, ◌<◌, ◌≤◌}
use native.Mathlib.Omega.{arith}
use lib.Dec.{ltb}
use lib.ListN.{length, get_or}
use borrow.Author.Tests.{ltb-true, ltb-false}
use Rattle.grammar.specs.Written.{Node}
use Rattle.tokens.specs.Flat.{sizes}
use Rattle.tokens.specs.Flat.{Frame, tag_of, figure_of, closing, closes, waiting_all}
use Rattle.tokens.specs.Shape.{tags}
use Rattle.tokens.specs.Arrays.{stack}
use Rattle.tokens.proofs.NodeLaws.{closing_grown}
use Rattle.tokens.specs.declared.moves.Stack.{Stack}
use Rattle.rule.specs.declared.nodes.Nodes.{Nodes}
use Rattle.rule.specs.inside.Nodes.{Held, Kept, Closable, Closing, Closed}
use Rattle.rule.specs.inside.Nodes.{figures, AllKinded, closings, Frames, Descending, Descended}

-- the innermost frame, and the others once it is closed
record Split (gs : List Frame) (K : Stack) (i : ℕ) (ms : List Node) : Type 0 where
  pub frame : Frame
  pub others : List Frame
  pub is : gs ≡ frame ∷ others
  pub closable : closes (get_or K.tags i 0) ≡ true → Closable frame (get_or K.tags i 0) (get_or K.figures i 0) ms
  pub stands : closes (get_or K.tags i 0) ≡ true → Frames others K i (closing frame ms)

split : (gs : List Frame) {K : Stack} {i : ℕ} {ms : List Node} → Frames gs K (suc i) ms → Split gs K i ms
unfolding tags figures AllKinded waiting_all stack
split [] F = absurd (let l = ap length F.tags_are in omega arith)
split (g ∷ gs) {K} {i} {ms} F =
    let t = F.tags_are in
    let y = F.figures_are in
    let tag : tag_of g ≡ get_or K.tags i 0 = cc in
    let fig : figure_of g ≡ get_or K.figures i 0 = cc in
    record {
      frame = g;
      others = gs;
      is = refl;
      closable =
          λ c. record { tag_is = tag; figure_is = fig; kinded = F.kinded.0; closes = c; more = waiting_all gs; enough = F.enough };
      stands = λ c.
          let grown = (closing_grown g ms (waiting_all gs) (ap closes tag ∙ c) F.enough).length_is in
          let e = F.enough in
          record { tags_are = cc; figures_are = cc; kinded = F.kinded.1; enough = omega arith };
    }

closings_grow : (m : ℕ) (gs : List Frame) (ms : List Node) {K : Stack} (i : ℕ) → Frames gs K i ms → m ≤ i
    → ((j : ℕ) → j < i → i ≤ j + m → closes (get_or K.tags j 0) ≡ true) → sizes ms ≤ sizes (closings m gs ms)
unfolding closings
closings_grow zero gs ms i F h c = omega arith
closings_grow (suc m) gs ms zero F h c = absurd (omega arith)
closings_grow (suc m) gs ms {K} (suc i) F h c =
    let p = split gs F in
    let k = c i (omega arith) (omega arith) in
    let q = p.is in
    let e = (p.closable k).enough in
    let t = (p.closable k).tag_is in
    let a = (closing_grown p.frame ms _ (ap closes t ∙ k) e).size_most in
    let b = closings_grow m p.others (closing p.frame ms) i (p.stands k) (omega arith)
    (λ j l n. c j (omega arith) (omega arith)) in
    rw q (omega arith)

-- the frames from `top` down to `to` are such as may be closed
abbrev pub Closable_all : List ℕ → ℕ → ℕ → Type 0
Closable_all st top to = (i : ℕ) → to ≤ i → i < top → closes (get_or st i 0) ≡ true

pub record Descent (Ns₀ : Nodes) (K : Stack) (top to : ℕ) (Ns : Nodes)
    (i : ℕ) : Type 0 where
  pub going : Ns.count ≤ 1024 → (fs : List Frame) (ns : List Node) → Frames fs K top ns → Closable_all K.tags top to
      → Held ns Ns₀
      → (gs : List Frame) × (ms : List Node) × Frames gs K i ms × Held ms Ns
      × (closings (i - to) gs ms ≡ closings (top - to) fs ns)
  pub crowd : 1024 < Ns.count → (fs : List Frame) (ns : List Node) → Frames fs K top ns → Closable_all K.tags top to
      → Held ns Ns₀ → 1024 < sizes (closings (top - to) fs ns)
  pub kept : Kept Ns₀ Ns
  pub at_most : i ≤ top

module _ {K : Stack} {Ns₀ : Nodes} {top to : ℕ} (D : Descending Ns₀ K top to) where
  pub descent_starts : Descent Ns₀ K top to Ns₀ top
  descent_starts =
      record {
        going = λ h fs ns F c H. (fs, ns, F, H, refl);
        crowd = λ h fs ns F c H.
            let t = H.count_is in
            let g = closings_grow (top - to) fs ns top F (omega arith) (λ j l n. c j (omega arith) l) in
            omega arith;
        kept = record { most = D.most; same = λ e. e };
        at_most = omega arith;
      }

  module _ {Ns : Nodes} {i : ℕ} (G : Descent Ns₀ K top to Ns i) where
    pub descent_ends : i ≤ to → Descended Ns₀ K top to Ns
    unfolding closings
    descent_ends h =
        let z : i - to ≡ 0 = omega arith in
        record {
          become = λ fs ns F c. record {
            held = λ e H. let g = G.going e fs ns F c H in let q = rw z at g.4 in rw (← q) g.3;
            full = λ e H. G.crowd e fs ns F c H;
          };
          kept = G.kept;
        }

    module _ {j : ℕ} (h : to < i) (je : j ≡ i - 1) where
      closes_here : Closable_all K.tags top to → closes (get_or K.tags j 0) ≡ true
      closes_here c = let m = G.at_most in c j (omega arith) (omega arith)

      split_here : (gs : List Frame) (ms : List Node) → Frames gs K i ms → Split gs K j ms
      split_here gs ms F = let z : i ≡ suc j = omega arith in split gs (rw z at F)

      pub descent_closes : Closing Ns (get_or K.tags j 0) (get_or K.figures j 0)
      descent_closes =
          record {
            most = G.kept.most;
            some = λ f.
                let S = D.some (G.kept.same f) in
                let g = G.going f S.frames S.nodes S.stands S.closes S.held in
                let p = split_here g.0 g.1 g.2 in
                record { nodes = g.1; held = g.3; frame = p.frame; closable = p.closable (closes_here S.closes) };
          }

      next_closings : (gs others : List Frame) (g : Frame) (ms : List Node) → gs ≡ g ∷ others
          → closings (i - to) gs ms ≡ closings (j - to) others (closing g ms)
      unfolding closings
      next_closings gs others g ms e = let z : i - to ≡ suc (j - to) = omega arith in rw (e, z)

      pub descent_on : {Ns₂ : Nodes}
          → Closed Ns (get_or K.tags j 0) (get_or K.figures j 0) Ns₂
          → Descent Ns₀ K top to Ns₂ j
      descent_on {Ns₂ = Ns₂} C =
          let m = G.at_most in
          record {
            going = λ f fs ns F c H.
                let g = G.going (C.kept.same f) fs ns F c H in
                let p = split_here g.0 g.1 g.2 in (
                  p.others,
                  closing p.frame g.1,
                  p.stands (closes_here c),
                  (C.become p.frame g.1 (p.closable (closes_here c))).held f g.3,
                  sym (next_closings g.0 p.others p.frame g.1 p.is) ∙ g.4,
                );
            crowd = λ f fs ns F c H. by f fs ns F c H (ltb 1024 Ns.count) refl;
            kept = record { most = C.kept.most; same = λ e. G.kept.same (C.kept.same e) };
            at_most = omega arith;
          }
        where
          by : 1024 < Ns₂.count → (fs : List Frame) (ns : List Node) → Frames fs K top ns → Closable_all K.tags top to
              → Held ns Ns₀ → (v : Bool) → ltb 1024 Ns.count ≡ v
              → 1024 < sizes (closings (top - to) fs ns)
          by f fs ns F c H true e = G.crowd (ltb-true 1024 Ns.count e) fs ns F c H
          by f fs ns F c H false e =
              let g = G.going (ltb-false 1024 Ns.count e) fs ns F c H in
              let p = split_here g.0 g.1 g.2 in
              let big = (C.become p.frame g.1 (p.closable (closes_here c))).full f g.3 in
              let grown = closings_grow (j - to) p.others (closing p.frame g.1) j (p.stands (closes_here c)) (omega arith)
              (λ k l n. let m = G.at_most in c k (omega arith) (omega arith)) in
              let same = ap sizes (sym (next_closings g.0 p.others p.frame g.1 p.is) ∙ g.4) in
              omega arith
