-- A frame that is closed makes of the nodes held what `closing` makes of them: one node, a row, or nothing.
use mathlib.Core.Path.{◌≡◌, refl, sym, ◌∙◌}
use mathlib.Core.List.{List, [], ◌∷◌}
use Prim.Native.Nat.{ℕ, suc, ◌+◌, ◌<◌, ◌≤◌}
use native.Mathlib.Omega.{arith}
use lib.ListN.{length}
use Rattle.rules.specs.Table.{Kind, negation, both, assign}
use Rattle.grammar.specs.Written.{Node, kind_number}
use Rattle.tokens.specs.Flat.{Form, one, two, make, arity, sequences, Figure, amount, kind, figure_number, figure_kind}
use Rattle.tokens.specs.Flat.{Frame, frame, tag_of, figure_of, closing, waiting_in}
use Rattle.tokens.proofs.NodeLaws.{Closes, both_parts, row, negated, alone, assignment, operation, closes_as, operation_closing, operation_waits}
use Rattle.rule.specs.declared.nodes.Nodes.{Nodes}
use Rattle.rule.specs.inside.Nodes.{Making, Made, Rowing, RowMade, kind_of_two, Kinded, Closable, Closing, Closed}
use Rattle.rule.proofs.FormLaws.{closing_form, closing_kind, form_two, kind_own}

any_two : (k : Kind) (x y : ℕ) (ns : List Node) → make two k x ns ≡ make two k y ns
unfolding make
any_two k x y [] = refl
any_two k x y (b ∷ []) = refl
any_two k x y (b ∷ a ∷ ns) = refl

any_one : (k : Kind) (x y : ℕ) (ns : List Node) → make one k x ns ≡ make one k y ns
unfolding make
any_one k x y [] = refl
any_one k x y (a ∷ ns) = refl

-- a frame other than a row's makes one node, or none
record Makes (F : Frame) (f x : ℕ) (ns : List Node) : Type 0 where
  of : Kind
  is : closing F ns ≡ make (closing_form f) of x ns
  number : kind_number of ≡ closing_kind f x
  parts : arity (closing_form f) ≤ length ns

own_kind : (j : ℕ) (fig : Figure) → Kinded (frame (29 + j) fig) → kind_number (figure_kind fig) ≡ figure_number fig
unfolding Kinded figure_kind figure_number
own_kind j (amount n) h = absurd (omega arith)
own_kind j (kind k) h = refl

operation_makes : (j : ℕ) (fig : Figure) (ns : List Node) (m : ℕ) → Kinded (frame (29 + j) fig)
    → length ns ≡ suc (waiting_in (frame (29 + j) fig) + m) → Makes (frame (29 + j) fig) (29 + j) (figure_number fig) ns
unfolding arity
operation_makes j fig ns m K e =
    let w = operation_waits j fig in
    let form : two ≡ closing_form (29 + j) = form_two (λ q. omega arith) (λ q. omega arith) in
    let number : figure_number fig ≡ closing_kind (29 + j) (figure_number fig) =
    kind_own (figure_number fig) (λ q. omega arith) (λ q. omega arith) (λ q. omega arith) in
    record {
      of = figure_kind fig;
      is = operation_closing j fig ns ∙ rw (← form) (any_two (figure_kind fig) 0 (figure_number fig) ns);
      number = own_kind j fig K ∙ number;
      parts = rw (← form) (omega arith);
    }

makes_by : {f : ℕ} → Closes f → (fig : Figure) (ns : List Node) (m : ℕ) → Kinded (frame f fig)
    → length ns ≡ suc (waiting_in (frame f fig) + m)
    → (f ≡ 19 → ⊥) → (f ≡ 27 → ⊥) → Makes (frame f fig) f (figure_number fig) ns
unfolding closing closing_form closing_kind kind_of_two arity waiting_in kind_number
makes_by both_parts fig ns m K e n l = record { of = both; is = any_two both 0 (figure_number fig) ns; number = refl; parts = omega arith }
makes_by row fig ns m K e n l = absurd (n refl)
makes_by negated fig ns m K e n l =
    record { of = negation; is = any_one negation 0 (figure_number fig) ns; number = refl; parts = omega arith }
makes_by alone fig ns m K e n l = absurd (l refl)
makes_by assignment fig ns m K e n l = record { of = assign; is = refl; number = refl; parts = omega arith }
makes_by (operation j) fig ns m K e n l = operation_makes j fig ns m K e

makes : {F : Frame} {f x : ℕ} {ns : List Node} → Closable F f x ns → (f ≡ 19 → ⊥) → (f ≡ 27 → ⊥) → Makes F f x ns
unfolding tag_of figure_of
makes {F = frame g fig} {ns = ns} C n l =
    let t = C.tag_is in
    let c = C.closes in
    let y = C.figure_is in
    let by = closes_as g (rw (← t) at c) in
    rw (← t, ← y) (makes_by by fig ns C.more C.kinded C.enough (λ e. n (sym t ∙ e)) (λ e. l (sym t ∙ e)))

closing_alone : (F : Frame) (ns : List Node) → tag_of F ≡ 27 → closing F ns ≡ ns
unfolding closing tag_of
closing_alone (frame g fig) ns e = rw e

closing_row : (F : Frame) (ns : List Node) → tag_of F ≡ 19 → closing F ns ≡ sequences (figure_of F) ns
unfolding closing tag_of figure_of
closing_row (frame g fig) ns e = rw e

waiting_row : (F : Frame) → tag_of F ≡ 19 → waiting_in F ≡ figure_of F
unfolding waiting_in tag_of figure_of
waiting_row (frame g fig) e = rw e

row_parts : {F : Frame} {f x : ℕ} {ns : List Node} → Closable F f x ns → f ≡ 19 → x < length ns
row_parts {F = F} c e =
    let w = waiting_row F (c.tag_is ∙ e) in
    let y = c.figure_is in
    let l = c.enough in
    omega arith

module _ {Ns : Nodes} {f x : ℕ} (C : Closing Ns f x) where
  pub close_alone : f ≡ 27 → Closed Ns f x Ns
  close_alone e =
      record {
        become = λ F ns c. record {
          held = λ z H. let q = closing_alone F ns (c.tag_is ∙ e) in rw q H;
          full = λ z H. let q = closing_alone F ns (c.tag_is ∙ e) in let t = H.count_is in rw q (omega arith);
        };
        kept = record { most = C.most; same = λ e. e };
      }

  pub close_groups : f ≡ 19 → Rowing Ns x
  close_groups e =
      record {
        most = C.most;
        some = λ h.
            let S = C.some h in
            let p = row_parts S.closable e in
            record { nodes = S.nodes; held = S.held; parts = omega arith };
      }

  pub close_row : {Ns₂ : Nodes} → f ≡ 19 → RowMade Ns x Ns₂
      → Closed Ns f x Ns₂
  close_row e M =
      record {
        become = λ F ns c.
            let q = closing_row F ns (c.tag_is ∙ e) in
            let y = c.figure_is in
            rw (q, y) (M.become ns (row_parts c e));
        kept = M.kept;
      }

  pub close_makes : {form : Form} → (f ≡ 27 → ⊥) → (f ≡ 19 → ⊥) → form ≡ closing_form f → Making Ns form
  close_makes l n e =
      record {
        most = C.most;
        some = λ h.
            let S = C.some h in
            record { nodes = S.nodes; held = S.held; parts = rw e (makes S.closable n l).parts };
      }

  pub close_made : {Ns₂ : Nodes} {form : Form} {kind : ℕ} → (f ≡ 27 → ⊥) → (f ≡ 19 → ⊥) → form ≡ closing_form f
      → kind ≡ closing_kind f x
      → Made Ns form kind x Ns₂ → Closed Ns f x Ns₂
  close_made l n e d M =
      record {
        become = λ F ns c.
            let m = makes c n l in
            let q = m.is in
            rw (q, ← e) (M.become m.of ns (m.number ∙ sym d) (rw e m.parts));
        kept = M.kept;
      }
