-- What the tables tell of a state: which tokens are allowed, where a token leads, when the text may end, and how many frames there are.
use mathlib.Core.Path.{◌≡◌, refl, sym, ap, ◌∙◌}
use Prim.Native.Nat.{ℕ, suc, ◌+◌, ◌*◌, ◌≤◌}
use mathlib.Core.Bool.{Bool, true, false, not}
use mathlib.Core.List.{List, [], ◌∷◌}
use mathlib.Core.Option.{Option, none, some}
use native.Mathlib.Omega.{arith}
use lib.Dec.{eqb}
use lib.ListN.{length}
use Rattle.grammar.specs.Rule.{Rule}
use Rattle.grammar.specs.Token.{Token}
use Rattle.grammar.specs.Written.{Node, arith_node, boole_node, rule_node}
use Rattle.grammar.specs.machine.Reader.{Phrase, Value, Open, State, want_statement, want_becomes, want_part, want_test}
use Rattle.grammar.specs.machine.Reader.{want_factor, want_open, have}
use Rattle.grammar.specs.machine.Reader.{step, whole_rule, ends}
use Rattle.grammar.specs.machine.Bytes.{taking, allows}
use Rattle.grammar.proofs.tokens.Choices.{nothing}
use Rattle.grammar.proofs.tokens.Height.{height, rank, height_bound, levels_within}
use Rattle.tokens.specs.Tables.{acts}
use Rattle.tokens.specs.Flat.{act, make, sequences, figure_number, figure_kind, Figure, Frame, tag_of, closing, Flat, flat}
use Rattle.tokens.specs.Flat.{left_of, moved, perform, perform_if, performed}
use Rattle.tokens.specs.Flat
use Rattle.tokens.specs.Stand.{kind_of, figure, node_of, earlier, waiting, frames, kept, flat_of, flat_if}
use Rattle.tokens.specs.Shape.{Shape, shape, tags, forget, shape_of, Found, found, seek_by, seek, locate, move_of, may}
use Rattle.tokens.specs.Shape.{none_open, complete}
use Rattle.tokens.specs.Shape
use Rattle.tokens.proofs.Steps.{step_moves}

unfoldable pub present : {A : Type 0} → Option A → Bool
present none = false
present (some a) = true

-- ---- nodes play no part in what is found

unfoldable forget_found : Flat.Found → Found
forget_found (Flat.found a fs ns) = found a (tags fs)

by_forget : (b : Bool) (here later : Flat.Found)
    → forget_found (Flat.seek_by b here later) ≡ seek_by b (forget_found here) (forget_found later)
unfolding Flat.seek_by seek_by
by_forget true here later = refl
by_forget false here later = refl

seek_forget : (k : ℕ) (fs : List Frame) (ns : List Node) → forget_found (Flat.seek k fs ns) ≡ seek k (tags fs)
unfolding Flat.seek seek tags forget_found
seek_forget k [] ns = refl
seek_forget k (f ∷ fs) ns =
    let i = seek_forget k fs (closing f ns) in by_forget (eqb (act (tag_of f) k) 1) _ _ ∙ ap (seek_by (eqb (act (tag_of f) k) 1) _) i

locate_forget : (F : Flat) (k : ℕ) → forget_found (Flat.locate F k) ≡ locate (forget F) k
unfolding Flat.locate locate forget forget_found
locate_forget (flat mode left fs ns) k = by_forget (eqb mode 6) _ _ ∙ ap (seek_by (eqb mode 6) _) (seek_forget k fs ns)

-- ---- a step

performed_may : (left : ℕ) (x : Figure) (f : Flat.Found) → present (performed left x f) ≡ not (eqb (move_of (forget_found f)) 0)
unfolding present performed perform_if move_of forget_found
performed_may left x (Flat.found a fs ns) = by (eqb a 0)
  where
    by : (b : Bool) → present (perform_if b (perform left x a fs ns)) ≡ not b
    by true = refl
    by false = refl

module _ {limit : ℕ} where
  taking_flat : (o : Option (State limit)) → taking o ≡ present (flat_if o)
  unfolding taking present flat_if
  taking_flat none = refl
  taking_flat (some S) = refl

  pub allows_may : (S : State limit) (t : Token) → allows S t ≡ may (shape_of S) (kind_of t)
  unfolding may moved
  allows_may S t =
      taking_flat (step S t) ∙ ap present (step_moves S t) ∙ performed_may (left_of (flat_of S)) (figure t)
      (Flat.locate (flat_of S) (kind_of t))
      ∙ ap (λ (f : Found). not (eqb (move_of f) 0)) (locate_forget (flat_of S) (kind_of t))

  -- where a move leads
  pub record Leads (S : State limit) (t : Token) (a : ℕ) (gs : List ℕ) : Type 0 where
    pub state : State limit
    pub step_is : step S t ≡ some state
    pub frames_left : List Frame
    pub nodes_left : List Node
    pub tags_are : tags frames_left ≡ gs
    pub found_is : Flat.locate (flat_of S) (kind_of t) ≡ Flat.found a frames_left nodes_left
    pub leads : flat_of state ≡ perform (left_of (flat_of S)) (figure t) a frames_left nodes_left

  leads_to : (S : State limit) (t : Token) (a : ℕ) (gs : List ℕ) (f : Flat.Found) → Flat.locate (flat_of S) (kind_of t) ≡ f
      → forget_found f ≡ found a gs
      → eqb a 0 ≡ false → (o : Option (State limit)) → step S t ≡ o → flat_if o ≡ performed (left_of (flat_of S)) (figure t) f
      → Leads S t a gs
  unfolding forget_found performed perform_if flat_if
  leads_to S t a gs (Flat.found b fs ns) e g h none s m =
      let q : b ≡ a = cc in
      let z : ◌≡◌ {A = Option Flat} none (some (perform (left_of (flat_of S)) (figure t) a fs ns)) = rw (q, h) at m in
      let y : ◌≡◌ {A = ℕ} 0 1 = cc in
      absurd (omega arith)
  leads_to S t a gs (Flat.found b fs ns) e g h (some R) s m =
      let q : b ≡ a = cc in
      let z : some (flat_of R) ≡ some (perform (left_of (flat_of S)) (figure t) a fs ns) = rw (q, h) at m in
      record {
        state = R;
        step_is = s;
        frames_left = fs;
        nodes_left = ns;
        tags_are = cc;
        found_is = e ∙ ap
            (λ (x : ℕ). Flat.found x fs ns) q;
        leads = cc;
      }

  pub step_leads : (S : State limit) (t : Token) (a : ℕ) (gs : List ℕ) → locate (shape_of S) (kind_of t) ≡ found a gs
      → eqb a 0 ≡ false → Leads S t a gs
  unfolding moved
  step_leads S t a gs e h =
      leads_to S t a gs (Flat.locate (flat_of S) (kind_of t)) refl (locate_forget (flat_of S) (kind_of t) ∙ e) h (step S t) refl
      (step_moves S t)

-- ---- the end of the text, as kind 29: nothing is left open, and one node is left

unfoldable pub left_over : Flat.Found → Option (List Node)
left_over (Flat.found a [] ns) = some ns
left_over (Flat.found a (f ∷ fs) ns) = none

unfoldable pub rule_nodes : Option Rule → Option (List Node)
rule_nodes none = none
rule_nodes (some r) = some (rule_node r ∷ [])

length_tags : (fs : List Frame) → length (tags fs) ≡ length fs
unfolding tags
length_tags [] = refl
length_tags (f ∷ fs) = ap suc (length_tags fs)

rank_most : (h : Phrase) → rank h ≤ 6
unfolding rank
rank_most Phrase.row = omega arith
rank_most Phrase.statement = omega arith
rank_most Phrase.ands = omega arith
rank_most Phrase.part = omega arith
rank_most Phrase.test = omega arith
rank_most Phrase.sum = omega arith
rank_most Phrase.term = omega arith
rank_most Phrase.factor = omega arith

unfoldable pub tags_of : Shape → List ℕ
tags_of (shape mode left fs) = fs

present_left : (f : Flat.Found) → present (left_over f) ≡ none_open (forget_found f)
unfolding present left_over none_open forget_found tags
present_left (Flat.found a [] ns) = refl
present_left (Flat.found a (f ∷ fs) ns) = refl

present_rule : (o : Option Rule) → present o ≡ present (rule_nodes o)
unfolding present rule_nodes
present_rule none = refl
present_rule (some r) = refl

module _ {limit : ℕ} where
  ands_open : {n : ℕ} (K : Open limit Phrase.ands n) (ns : List Node) → left_over (Flat.seek 29 (frames K) ns) ≡ none
  unfolding frames left_over Flat.seek Flat.seek_by act acts tag_of
  ands_open (Open.if_test K) ns = refl
  ands_open (Open.while_test K) ns = refl
  ands_open (Open.squared K) ns = refl
  ands_open (Open.choose_test K) ns = refl

  part_open : {n : ℕ} (K : Open limit Phrase.part n) (ns : List Node) → left_over (Flat.seek 29 (frames K) ns) ≡ none
  unfolding frames left_over Flat.seek Flat.seek_by act acts tag_of
  part_open (Open.first_part K) ns = ands_open K ns
  part_open (Open.next_part b K) ns = refl

  whole_left : {h : Phrase} {n : ℕ} (K : Open limit h n) (v : Value h)
      → left_over (Flat.seek 29 (frames K) (sequences (waiting h K) (node_of h v ∷ kept K))) ≡ rule_nodes (whole_rule K v)
  unfolding whole_rule frames kept earlier waiting node_of arith_node boole_node rule_node left_over rule_nodes
      Flat.seek Flat.seek_by act acts tag_of closing sequences make figure_number figure_kind
  whole_left Open.whole v = refl
  whole_left (Open.follow s K) v = whole_left K _
  whole_left (Open.then_branch b K) v = refl
  whole_left (Open.else_branch b p K) v = refl
  whole_left (Open.loop_body b K) v = refl
  whole_left (Open.in_row K) v = whole_left K _
  whole_left (Open.if_test K) v = refl
  whole_left (Open.while_test K) v = refl
  whole_left (Open.squared K) v = refl
  whole_left (Open.choose_test K) v = refl
  whole_left (Open.first_part K) v = ands_open K _
  whole_left (Open.next_part b K) v = refl
  whole_left (Open.plain K) v = part_open K _
  whole_left (Open.negated K) v = refl
  whole_left (Open.assigning x K) v = whole_left K _
  whole_left (Open.left_side K) v = refl
  whole_left (Open.right_side o a K) v = refl
  whole_left (Open.bracketed K) v = refl
  whole_left (Open.choose_first b K) v = refl
  whole_left (Open.choose_second b x K) v = refl
  whole_left (Open.first_term K) v = whole_left K _
  whole_left (Open.next_term o a K) v = whole_left K _
  whole_left (Open.first_factor K) v = whole_left K _
  whole_left (Open.next_factor o a K) v = whole_left K _

  pub ends_complete : (S : State limit) → present (ends S) ≡ complete (shape_of S)
  unfolding ends complete flat_of forget present
  ends_complete (want_statement n K) = refl
  ends_complete (want_becomes n x K) = refl
  ends_complete (want_part n K) = refl
  ends_complete (want_test n K) = refl
  ends_complete (want_factor n K) = refl
  ends_complete (want_open n K) = refl
  ends_complete (have h n K v) =
      present_rule (whole_rule K v) ∙ ap present (sym (whole_left K v))
      ∙ present_left (Flat.seek 29 (frames K) (sequences (waiting h K) (node_of h v ∷ kept K)))
      ∙ ap none_open (seek_forget 29 (frames K) (sequences (waiting h K) (node_of h v ∷ kept K)))

  -- the node that is left is the rule's
  pub ends_left : (S : State limit) {r : Rule} → ends S ≡ some r
      → left_over (Flat.seek 29 (Flat.frames_of (flat_of S)) (Flat.nodes_of (flat_of S))) ≡ some (rule_node r ∷ [])
  unfolding ends flat_of Flat.frames_of Flat.nodes_of rule_nodes
  ends_left (want_statement n K) e = absurd (nothing e)
  ends_left (want_becomes n x K) e = absurd (nothing e)
  ends_left (want_part n K) e = absurd (nothing e)
  ends_left (want_test n K) e = absurd (nothing e)
  ends_left (want_factor n K) e = absurd (nothing e)
  ends_left (want_open n K) e = absurd (nothing e)
  ends_left (have h n K v) e = whole_left K v ∙ ap rule_nodes e

  -- ---- how many frames, and levels

  frames_height : {h : Phrase} {n : ℕ} (K : Open limit h n) → length (frames K) ≤ height K
  unfolding frames height
  frames_height Open.whole = omega arith
  frames_height (Open.follow s K) = frames_height K
  frames_height (Open.then_branch b K) = let m = frames_height K in omega arith
  frames_height (Open.else_branch b p K) = let m = frames_height K in omega arith
  frames_height (Open.loop_body b K) = let m = frames_height K in omega arith
  frames_height (Open.in_row K) = let m = frames_height K in omega arith
  frames_height (Open.if_test K) = let m = frames_height K in omega arith
  frames_height (Open.while_test K) = let m = frames_height K in omega arith
  frames_height (Open.squared K) = let m = frames_height K in omega arith
  frames_height (Open.choose_test K) = let m = frames_height K in omega arith
  frames_height (Open.first_part K) = let m = frames_height K in omega arith
  frames_height (Open.next_part b K) = let m = frames_height K in omega arith
  frames_height (Open.plain K) = let m = frames_height K in omega arith
  frames_height (Open.negated K) = let m = frames_height K in omega arith
  frames_height (Open.assigning x K) = let m = frames_height K in omega arith
  frames_height (Open.left_side K) = let m = frames_height K in omega arith
  frames_height (Open.right_side o a K) = let m = frames_height K in omega arith
  frames_height (Open.bracketed K) = let m = frames_height K in omega arith
  frames_height (Open.choose_first b K) = let m = frames_height K in omega arith
  frames_height (Open.choose_second b x K) = let m = frames_height K in omega arith
  frames_height (Open.first_term K) = let m = frames_height K in omega arith
  frames_height (Open.next_term o a K) = let m = frames_height K in omega arith
  frames_height (Open.first_factor K) = let m = frames_height K in omega arith
  frames_height (Open.next_factor o a K) = let m = frames_height K in omega arith

  few : {h : Phrase} {n : ℕ} (K : Open limit h n) → length (frames K) ≤ 6 * limit + 6
  few {h} K =
      let a = frames_height K in
      let b = height_bound K in
      let c = rank_most h in
      omega arith

  pub frames_few : (S : State limit) → length (tags_of (shape_of S)) ≤ 6 * limit + 7
  unfolding flat_of forget tags_of tags
  frames_few (want_statement n K) = let f = few K in let e = length_tags (frames K) in omega arith
  frames_few (want_becomes n x K) = let f = few K in let e = length_tags (frames K) in omega arith
  frames_few (want_part n K) = let f = few K in let e = length_tags (frames K) in omega arith
  frames_few (want_test n K) = let f = few K in let e = length_tags (frames K) in omega arith
  frames_few (want_factor n K) = let f = few K in let e = length_tags (frames K) in omega arith
  frames_few (want_open n K) = let f = few K in let e = length_tags (frames K) in omega arith
  frames_few (have h n K v) = let f = few K in let e = length_tags (frames K) in omega arith

  pub levels_few : (S : State limit) → Shape.left_of (shape_of S) ≤ limit
  unfolding flat_of forget Shape.left_of
  levels_few (want_statement n K) = levels_within K
  levels_few (want_becomes n x K) = levels_within K
  levels_few (want_part n K) = levels_within K
  levels_few (want_test n K) = levels_within K
  levels_few (want_factor n K) = levels_within K
  levels_few (want_open n K) = let m = levels_within K in omega arith
  levels_few (have h n K v) = levels_within K
