-- The frames that a token opens are those of the next state, with their figures; so the arrays hold that state.
use mathlib.Core.Path.{◌≡◌, refl, sym, ap, ap₂, ◌∙◌}
use mathlib.Core.List.{List, [], ◌∷◌}
use Prim.Native.Nat.{ℕ, zero, suc, ◌+◌, ◌%◌, ◌≤◌}
use native.Mathlib.Omega.{arith}
use Rattle.grammar.specs.Token.{Token}
use Rattle.grammar.specs.Written.{Node}
use Rattle.grammar.specs.Grammar.{nesting}
use Rattle.grammar.specs.machine.Reader.{State}
use Rattle.tokens.specs.declared.moves.Stack.{Stack}
use Rattle.tokens.specs.declared.moves.Standing.{Standing}
use Rattle.tokens.specs.declared.moves.Place.{Place}
use Rattle.tokens.specs.Flat.{move_at, Figure, figure_number, Frame, frame, tag_of, figure_of, waiting_in}
use Rattle.tokens.specs.Flat.{waiting_all}
use Rattle.tokens.specs.Flat.{Flat, flat, left_of, frames_of, nodes_of, closed, counted, taken, figure_at, opened_frame}
use Rattle.tokens.specs.Flat.{opened, level, perform}
use Rattle.tokens.specs.Stand.{kind_of, figure, flat_of}
use Rattle.tokens.specs.Shape.{Shape, shape, tags, forget}
use Rattle.tokens.specs.Shape
use Rattle.tokens.specs.Arrays.{stack, Located, counted_number, taken_number, number_at, entered, Entered}
use Rattle.tokens.proofs.ShapeLaws.{Leads}
use Rattle.tokens.proofs.NodeLaws.{nodes_length, kind_few}
use Rattle.rule.specs.declared.nodes.Nodes.{Nodes}
use Rattle.rule.specs.inside.Nodes.{figures}
use Rattle.rule.specs.inside.Turns.{Stands, Grown}
use Rattle.rule.proofs.HoldLaws.{length_least}
use Rattle.rule.proofs.SeekLaws.{Counting, no_count}
use Rattle.rule.proofs.SeekLaws.{in_row, found_counting}
use Rattle.rule.proofs.TurnLaws.{left_passed, grown_held, grown_crowded}

-- ---- the frames of the next state

tags_opened : (a : ℕ) (x : Figure) (c : ℕ) (fs : List Frame)
    → tags (opened (opened_frame a x) c fs) ≡ opened (λ j. move_at a (2 + j)) c (tags fs)
unfolding tags opened opened_frame tag_of
tags_opened a x zero fs = refl
tags_opened a x (suc j) fs = ap (λ (l : List ℕ). move_at a (2 + j) ∷ l) (tags_opened a x j fs)

tags_counted : (n : ℕ) (fs : List Frame) → tags (counted n fs) ≡ tags fs
unfolding tags counted tag_of
tags_counted zero fs = refl
tags_counted (suc n) [] = refl
tags_counted (suc n) (frame f x ∷ fs) = refl

tags_closed : (n : ℕ) (fs : List Frame) → tags (closed n fs) ≡ closed n (tags fs)
unfolding tags closed
tags_closed zero fs = refl
tags_closed (suc n) [] = refl
tags_closed (suc n) (f ∷ fs) = refl

enter_shape : (left : ℕ) (x : Figure) (a : ℕ) (fs : List Frame) (ns : List Node)
    → forget (perform left x a fs ns) ≡ Shape.enter left a (tags fs)
unfolding perform forget Shape.enter
enter_shape left x a fs ns =
    ap (shape (move_at a 6) (level (move_at a 7) left))
    (tags_opened a x (move_at a 1) (counted (move_at a 10) (closed (move_at a 0) fs))
    ∙ ap (opened (λ j. move_at a (2 + j)) (move_at a 1))
    (tags_counted (move_at a 10) (closed (move_at a 0) fs) ∙ tags_closed (move_at a 0) fs))

-- ---- and their figures

taken_number_lem : (n : ℕ) (x : Figure) → figure_number (taken n x) ≡ taken_number n (figure_number x)
unfolding taken taken_number figure_number
taken_number_lem zero x = refl
taken_number_lem (suc n) x = refl

number_at_lem : (a : ℕ) (x : Figure) (j : ℕ) → figure_of (opened_frame a x j) ≡ number_at (taken_number (move_at a 11) (figure_number x)) j
unfolding opened_frame figure_of figure_at number_at figure_number
number_at_lem a x zero = taken_number_lem (move_at a 11) x
number_at_lem a x (suc j) = refl

figures_opened : (a : ℕ) (x : Figure) (c : ℕ) (fs : List Frame)
    → figures (opened (opened_frame a x) c fs) ≡ opened (number_at (taken_number (move_at a 11) (figure_number x))) c (figures fs)
unfolding figures opened
figures_opened a x zero fs = refl
figures_opened a x (suc j) fs = ap₂ ◌∷◌ (number_at_lem a x j) (figures_opened a x j fs)

figures_closed : (n : ℕ) (fs : List Frame) → figures (closed n fs) ≡ closed n (figures fs)
unfolding figures closed
figures_closed zero fs = refl
figures_closed (suc n) [] = refl
figures_closed (suc n) (f ∷ fs) = refl

count_number : (n : ℕ) (x : Figure) (fs : List Frame) → figure_number x ≤ 1024
    → figures (counted n (frame 19 x ∷ fs)) ≡ counted_number n (figures (frame 19 x ∷ fs))
unfolding figures counted counted_number figure_of figure_number
count_number zero x fs h = refl
count_number (suc n) x fs h =
    let z : suc (figure_number x) ≡ suc (figure_number x) % 4294967296 = omega arith in
    ap (λ (k : ℕ). k ∷ figures fs) z

figures_counted : (a : ℕ) (gs : List Frame) → Counting a gs → waiting_all gs ≤ 1024
    → figures (counted (move_at a 10) (closed (move_at a 0) gs)) ≡ counted_number (move_at a 10) (closed (move_at a 0) (figures gs))
unfolding counted counted_number closed waiting_all waiting_in
figures_counted a gs (no_count e) h = rw e (figures_closed (move_at a 0) gs)
figures_counted a gs (in_row {x = x} {gs = hs} e) h = rw e (count_number (move_at a 10) x hs (omega arith))

enter_figures : (left : ℕ) (x : Figure) (a : ℕ) (gs : List Frame) (ns : List Node) → Counting a gs → waiting_all gs ≤ 1024
    → figures (frames_of (perform left x a gs ns)) ≡ entered a (figure_number x) (figures gs)
unfolding perform frames_of entered
enter_figures left x a gs ns c h =
    figures_opened a x (move_at a 1) (counted (move_at a 10) (closed (move_at a 0) gs))
    ∙ ap (opened (number_at (taken_number (move_at a 11) (figure_number x))) (move_at a 1)) (figures_counted a gs c h)

-- ---- a token is taken

left_is : {K : Stack} {Ns : Nodes} {s : Standing} (S : State nesting) → Stands S K Ns s
    → left_of (flat_of S) ≡ s.left
unfolding left_of Shape.left_of forget
left_is S D = same (flat_of S) (ap Shape.left_of D.shaped)
  where
    same : {n : ℕ} (F : Flat) → Shape.left_of (forget F) ≡ n → left_of F ≡ n
    same (flat mode left fs ns) e = e

pub turned : {K K₂ : Stack} {Ns Ns₂ : Nodes} {s r : Standing} {a to x : ℕ} {p : Place}
    (S : State nesting) (t : Token)
    → Stands S K Ns s → Located K.tags s (kind_of t) a to → figure_number (figure t) ≡ x → (l : Leads S t a (stack K.tags to))
    → Grown K Ns s.top to a x Ns₂ → p.act ≡ a → p.top ≡ to → Entered K.tags K.figures s.left p x K₂.tags K₂.figures r
    → Stands l.state K₂ Ns₂ r
turned {K} {K₂ = K₂} {Ns = Ns} {s = s} {r = r} {a = a} {to = to} {x = x} {p = p} S t D L n l G pa pt E =
    let sh = enter_shape (left_of (flat_of S)) (figure t) a l.frames_left l.nodes_left in
    let e = E.tags_are in
    let li = left_is S D in
    let ta = l.tags_are in
    record {
      shaped = ap forget l.leads ∙ sh ∙ rw (li, ta, ← pa, ← pt) (sym e);
      figured = λ f. figured_next (G.kept.same f);
      held = grown_held G S t D n l;
      crowded = grown_crowded G S t D n l;
      most = G.kept.most;
    }
  where
    waits_few : Ns.count ≤ 1024 → waiting_all l.frames_left ≤ 1024
    waits_few f =
        let w = (left_passed S t D l).waits in
        let m = nodes_length S in
        let k = length_least (nodes_of (flat_of S)) in
        let q = (D.held f).count_is in
        omega arith

    figured_next : Ns.count ≤ 1024 → figures (frames_of (flat_of l.state)) ≡ stack K₂.figures r.top
    figured_next f =
        let g = (left_passed S t D l).figures_are (D.figured f) in
        let q = enter_figures (left_of (flat_of S)) (figure t) a l.frames_left l.nodes_left
        (found_counting S (kind_of t) (kind_few t) l.found_is) (waits_few f) in
        let e = E.figures_are in
        ap (λ (F : Flat). figures (frames_of F)) l.leads ∙ q ∙ rw (g, n, ← pa, ← pt) (sym e)
