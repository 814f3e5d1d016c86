-- The end of the text: refused 17, 1 or 9, or the words that are written are the table of what was typed.
use mathlib.Core.Path.{◌≡◌, refl, sym, ap, ◌∙◌}
use mathlib.Core.Bool.{Bool, true, false}
use mathlib.Core.List.{List, [], ◌∷◌}
use mathlib.Core.Option.{Option, none, some}
use Prim.Native.Nat.{ℕ, zero, suc, ◌+◌, ◌*◌, ◌<◌, ◌≤◌}
use native.Mathlib.Omega.{arith}
use lib.Dec.{eqb, ltb, lit<}
use lib.ListN.{length, get_or, take}
use borrow.Author.Tests.{eq-eqb, ne_eqb, lt-ltb, le-ltb, ltb-true, ltb-false}
use Rattle.std.specs.Prelude.{Result, MatchResult}
use Rattle.rules.specs.Refusal.{refusal, refuse, ◌or_else◌}
use Rattle.rules.specs.declared.Refusal.{Refusal}
use Rattle.rules.specs.Table
use Rattle.grammar.specs.Rule.{Rule}
use Rattle.grammar.specs.Grammar.{nesting}
use Rattle.grammar.specs.Spelling.{is_blank}
use Rattle.grammar.specs.Written.{Node, rule_node, size, depth, table_of}
use Rattle.grammar.specs.Typed.{table_answer}
use Rattle.grammar.specs.machine.Reader.{State, next, ends}
use Rattle.grammar.specs.machine.Bytes.{shut, byte_end, next_spot, reach_bytes, read_from, taken, read_text, taken_of}
use Rattle.grammar.specs.machine.Answer.{refusal_of, typed_refusal}
use Rattle.grammar.proofs.bytes.OneReading.{read_in_grammar}
use Rattle.grammar.proofs.table.TypedRefusals.{typed_refusal_lem, table_length}
use Rattle.tokens.specs.declared.moves.Stack.{Stack}
use Rattle.tokens.specs.declared.moves.Standing.{Standing}
use Rattle.tokens.specs.Tables.{moves}
use Rattle.tokens.specs.Flat.{move_at, form_of, make, arity, sizes, Flat, flat, frames_of, nodes_of, at_hand, Found, found, seek_by, seek, locate}
use Rattle.tokens.specs.Stand.{flat_of}
use Rattle.tokens.specs.Shape.{Shape, shape, tags, forget, none_open, complete}
use Rattle.tokens.specs.Shape
use Rattle.tokens.specs.Arrays.{stack, standing, Located}
use Rattle.tokens.proofs.ShapeLaws.{present, ends_complete, left_over, ends_left}
use Rattle.tokens.proofs.NodeLaws.{passes, nodes_length, found_roomy}
use Rattle.tokens.proofs.ArrayLaws.{located_sought}
use Rattle.tokens.proofs.Halts.{past}
use Rattle.rule.specs.declared.nodes.Nodes.{Nodes}
use Rattle.rule.specs.declared.turns.Next.{Next}
use Rattle.rule.specs.inside.Nodes.{depths_of, written_of, Holds, Frames, Become}
use Rattle.rule.specs.inside.Turns.{Stands, Lowering, Lowered, Moving, Grown, Performing, Moved, Reading, Skipped, BeforeTurn, AtEnd, LeftOpen, NextIs, NoneNext, Turned, Stuck}
use Rattle.rule.specs.inside.Turns.{Whole, Finished, Reached, Refuses}
use Rattle.rule.proofs.HoldLaws.{depth_is}
use Rattle.rule.proofs.DescentLaws.{Closable_all}
use Rattle.rule.proofs.SeekLaws.{Passed, found_passed, all_kinded, kind_named}
use Rattle.rule.proofs.TurnLaws.{lowers, grow_makes, grow_made, tags_stand, top_fits, level_fits}
use Rattle.rule.proofs.ReadLaws.{skipped_read, token_stuck, token_moving, token_top, token_reading}

-- ---- the reading is what the state ends as

module _ {text : List ℕ} {K : Stack} {Ns : Nodes} {s : Standing} {at : ℕ}
    (R : Reading text at K Ns s) (h : length text ≤ at) where
  end_reads : read_text text ≡ ends R.state
  unfolding read_text read_from reach_bytes next_spot byte_end shut next
  end_reads = R.same.reads ∙ rw (past text at h)

  end_place : taken_of text ≡ at
  unfolding taken_of taken
  end_place =
      let p = rw (past text at h) at R.same.place in
      let i = R.inside in
      omega arith

absent_none : {A : Type 0} (o : Option A) → present o ≡ false → o ≡ none
unfolding present
absent_none none e = refl
absent_none (some a) e = let z : ◌≡◌ {A = ℕ} 0 1 = cc in absurd (omega arith)

present_some : {A : Type 0} (o : Option A) → present o ≡ true → (a : A) × (o ≡ some a)
unfolding present
present_some none e = let z : ◌≡◌ {A = ℕ} 0 1 = cc in absurd (omega arith)
present_some (some a) e = (a, refl)

-- ---- whether something is left open

none_open_lem : (st : List ℕ) (a t : ℕ) → none_open (Shape.found a (stack st t)) ≡ eqb t 0
unfolding none_open stack
none_open_lem st a zero = refl
none_open_lem st a (suc t) = sym (ne_eqb (suc t) 0 (λ e. omega arith))

complete_is : (st : List ℕ) (s : Standing) (a t : ℕ) → s.mode ≡ 6 → Located st s 29 a t → complete (standing st s) ≡ eqb t 0
unfolding complete
complete_is st s a t m l =
    let sought = located_sought s.mode s.left (stack st s.top) 29 m in
    let e : Shape.seek 29 (stack st s.top) ≡ Shape.found a (stack st t) = sym sought ∙ l.is in
    rw (eq-eqb s.mode 6 m, e) (none_open_lem st a t)

complete_not : (st : List ℕ) (s : Standing) → (s.mode ≡ 6 → ⊥) → complete (standing st s) ≡ false
unfolding complete
complete_not st s m = rw (ne_eqb s.mode 6 m)

-- ---- `next_at_end`

pub wanting_open : {st : List ℕ} {s : Standing} {at : ℕ} → (s.mode ≡ 6 → ⊥) → LeftOpen st s at at
wanting_open {st} {s} m = record { left_open = complete_not st s m; end_is = refl }

pub frames_open : {st : List ℕ} {s : Standing} {at a t : ℕ} → s.mode ≡ 6 → Located st s 29 a t → (t ≡ 0 → ⊥) → LeftOpen st s at at
frames_open {st} {s} {a = a} {t = t} m l n = record { left_open = complete_is st s a t m l ∙ ne_eqb t 0 n; end_is = refl }

pub nothing_open : {st : List ℕ} {s : Standing} {at a t : ℕ} {n : Next} → s.mode ≡ 6 → Located st s 29 a t → t ≡ 0 → n.end ≡ at + 1
    → n.place.act ≡ 0 → n.place.top ≡ 0 → AtEnd st s at n
nothing_open {a = a} m l z e c t = record { over = (m, (a, rw z at l), e, c, t) }

-- ---- a rule is there

-- the rule, and that its node is what is left of the nodes once all frames are closed
record Ended (S : State nesting) (r : Rule) : Type 0 where
  pub act : ℕ
  pub ends_as : ends S ≡ some r
  pub found_is : locate (flat_of S) 29 ≡ found act [] (rule_node r ∷ [])

left_over_lem : (f : Found) {ns : List Node} → left_over f ≡ some ns → (a : ℕ) × (f ≡ found a [] ns)
unfolding left_over
left_over_lem (found a [] ms) e = (a, ap (found a []) cc)
left_over_lem (found a (g ∷ gs) ms) e = let z : ◌≡◌ {A = ℕ} 0 1 = cc in absurd (omega arith)

unfoldable mode_of : Shape → ℕ
mode_of (shape mode left fs) = mode

hand_seeks : (F : Flat) → mode_of (forget F) ≡ 6 → (locate F 29 ≡ seek 29 (frames_of F) (nodes_of F)) × (at_hand F ≡ 1)
unfolding mode_of forget locate seek_by frames_of nodes_of at_hand
hand_seeks (flat mode left fs ns) e = (rw (eq-eqb mode 6 e), rw (eq-eqb mode 6 e))

module _ {K : Stack} {Ns : Nodes} {s : Standing} (S : State nesting)
    (D : Stands S K Ns s) (m : s.mode ≡ 6) where
  hand : (locate (flat_of S) 29 ≡ seek 29 (frames_of (flat_of S)) (nodes_of (flat_of S))) × (at_hand (flat_of S) ≡ 1)
  unfolding mode_of
  hand = hand_seeks (flat_of S) (ap mode_of D.shaped ∙ m)

  ended : {a t : ℕ} → Located K.tags s 29 a t → t ≡ 0 → (r : Rule) × Ended S r
  ended {a} {t} l z =
      let c : present (ends S) ≡ true = ends_complete S ∙ ap complete D.shaped ∙ complete_is K.tags s a t m l ∙ eq-eqb t 0 z in
      let r = present_some (ends S) c in
      let f = left_over_lem (seek 29 (frames_of (flat_of S)) (nodes_of (flat_of S))) (ends_left S r.1) in
      (r.0, record { act = f.0; ends_as = r.1; found_is = hand.0 ∙ f.1 })

  module _ {r : Rule} (E : Ended S r) where
    all_passed : Passed 29 (frames_of (flat_of S)) (nodes_of (flat_of S)) K.tags K.figures s.top 0 [] (rule_node r ∷ [])
    unfolding tags stack
    all_passed = found_passed (flat_of S) 29 K.tags K.figures s.top 0 (tags_stand S D) E.found_is refl

    not_larger : sizes (nodes_of (flat_of S)) ≤ size (rule_node r)
    unfolding sizes
    not_larger = let g = (found_roomy S 29 (lit< tt) E.found_is).size_most in omega arith

    all_stand : Ns.count ≤ 1024 → Frames (frames_of (flat_of S)) K s.top (nodes_of (flat_of S))
    all_stand f =
        let n = nodes_length S in
        let o = hand.1 in
        record { tags_are = tags_stand S D; figures_are = D.figured f; kinded = all_kinded S; enough = omega arith }

    all_close : Closable_all K.tags s.top 0
    all_close i a h = passes (get_or K.tags i 0) 29 (lit< tt) (all_passed.passed i a h)

    closing_all : Moving K Ns s.top 0 0
    unfolding move_at moves form_of arity
    closing_all =
        record {
          most = D.most;
          fits = top_fits D;
          goes = λ f. record {
            frames = frames_of (flat_of S);
            nodes = nodes_of (flat_of S);
            held = D.held f;
            stands = λ h. all_stand f;
            closes = all_close;
            parts = omega arith;
          };
        }

    closed_all : {Ns₂ : Nodes} {x : ℕ} → Ns.count ≤ 1024
        → Grown K Ns s.top 0 0 x Ns₂
        → Become (nodes_of (flat_of S)) (rule_node r ∷ []) Ns Ns₂
    unfolding move_at moves form_of arity make
    closed_all f G =
        let q = all_passed.nodes_are in
        rw q
        (G.become (Table.kind_of (move_at 0 9)) (frames_of (flat_of S)) (nodes_of (flat_of S)) (kind_named 0) (λ h. all_stand f) all_close
        (omega arith))

-- ---- 1 and 9

module _ (text : List ℕ) (r : Rule) (e : read_text text ≡ some r) where
  answer_is : (room : ℕ)
      → typed_refusal text room
      ≡ ((refuse (ltb 1024 (size (rule_node r))) 1 0 or_else refuse (ltb 256 (depth (rule_node r))) 9 0)
      or_else refuse (ltb room (length (table_of r))) 15 0)
  unfolding typed_refusal refusal_of table_answer
  answer_is room = let t = typed_refusal_lem (read_in_grammar text e) in rw (e, t)

  many_refused : 1024 < size (rule_node r) → Refuses text (refusal 1 0)
  unfolding refuse ◌or_else◌
  many_refused h = let l = lt-ltb 1024 (size (rule_node r)) h in record { is = λ room. answer_is room ∙ rw l }

  deep_refused : size (rule_node r) ≤ 1024 → 256 < depth (rule_node r) → Refuses text (refusal 9 0)
  unfolding refuse ◌or_else◌
  deep_refused f h =
      let l = le-ltb 1024 (size (rule_node r)) f in
      let k = lt-ltb 256 (depth (rule_node r)) h in
      record { is = λ room. answer_is room ∙ rw (l, k) }

  fits_reached : {Ns : Nodes} {count : ℕ} → count ≡ size (rule_node r) → count ≤ 1024 → depth (rule_node r) ≤ 256
      → take (4 * count) Ns.words ≡ table_of r → Reached text Ns count
  unfolding refuse ◌or_else◌
  fits_reached c f d t =
      let l = le-ltb 1024 (size (rule_node r)) (omega arith) in
      let k = le-ltb 256 (depth (rule_node r)) d in
      let g = typed_refusal_lem (read_in_grammar text e) in
      let m = table_length r in
      record { rule = r; reads = e; passes = g ∙ rw (l, k); words_are = t; amount = omega arith; few = f }

-- what the arrays hold where one node is left
one_left : (r : Rule) {roots deep words : List ℕ} {d c : ℕ} → Holds (rule_node r ∷ []) roots deep words d c
    → (c ≡ size (rule_node r)) × (get_or deep 0 0 ≡ depth (rule_node r)) × (take (4 * c) words ≡ table_of r)
unfolding sizes depths_of written_of table_of stack
one_left r {deep = deep} {words = words} H =
    let l = depth_is H in
    let e : stack deep 1 ≡ depths_of (rule_node r ∷ []) = rw l at H.depths_are in
    let k = H.count_is in
    (omega arith, cc, H.words_are)

-- ---- the turn at the end

module _ {text : List ℕ} {K : Stack} {Ns : Nodes} {s : Standing} {at : ℕ} (B : BeforeTurn text at K Ns s) (h : length text ≤ at) where
  pub end_stuck : {end : ℕ} → LeftOpen K.tags s at end → Stuck text end
  end_stuck O =
      let R = B.reading in
      let a : present (ends R.state) ≡ false = ends_complete R.state ∙ ap complete R.stands.shaped ∙ O.left_open in
      record { unread = end_reads R h ∙ absent_none (ends R.state) a; place = end_place R h ∙ sym O.end_is }

  module _ {n : Next} (N : AtEnd K.tags s at n) where
    there : (r : Rule) × Ended B.reading.state r
    there = let o = N.over in ended B.reading.state B.reading.stands o.0 o.1.1 refl

    abbrev E : Ended B.reading.state there.0
    E = there.1

    pub end_moving : Moving K Ns s.top n.place.top n.place.act
    end_moving =
        let o = N.over in
        let a = o.3 in
        let t = o.4 in
        rw (a, t) (closing_all B.reading.state B.reading.stands o.0 E)

    pub end_top : n.place.top ≤ 1543
    end_top = let t = N.over.4 in omega arith

    pub end_whole : {Ns₂ : Nodes} {x : ℕ} → Grown K Ns s.top n.place.top n.place.act x Ns₂ → Whole text Ns₂ × (n.end ≡ at + 1)
    unfolding sizes
    end_whole {Ns₂} {x} G =
        let o = N.over in
        let a = o.3 in
        let t = o.4 in
        let G₂ : Grown K Ns s.top 0 0 x Ns₂ = rw (a, t) at G in
        (whole o.0 G₂, o.2)
      where
        whole : s.mode ≡ 6 → Grown K Ns s.top 0 0 x Ns₂ → Whole text Ns₂
        whole m G =
            record {
              rule = there.0;
              reads = end_reads B.reading h ∙ E.ends_as;
              held = λ z. let f = G.kept.same z in (closed_all B.reading.state B.reading.stands m E f G).held z (B.reading.stands.held f);
              crowded = λ z. crowd z (ltb 1024 Ns.count) refl;
              most = G.kept.most;
            }
          where
            crowd : 1024 < Ns₂.count → (v : Bool) → ltb 1024 Ns.count ≡ v → 1024 < size (rule_node there.0)
            crowd z true f =
                let g = not_larger B.reading.state B.reading.stands m E in
                let k = B.reading.stands.crowded (ltb-true 1024 Ns.count f) in
                omega arith
            crowd z false f =
                let l = ltb-false 1024 Ns.count f in
                let k = (closed_all B.reading.state B.reading.stands m E l G).full z (B.reading.stands.held l) in
                omega arith

-- ---- `advance`: a token, or the end

-- whether a byte is there
inside : {A : Type 0} (text : List ℕ) (at : ℕ) → (at < length text → A) → (length text ≤ at → A) → A
inside {A} text at f g = by (ltb at (length text)) refl
  where
    by : (c : Bool) → ltb at (length text) ≡ c → A
    by true e = f (ltb-true at (length text) e)
    by false e = g (ltb-false at (length text) e)

module _ {text : List ℕ} {K : Stack} {Ns : Nodes} {s : Standing} {at : ℕ} (B : BeforeTurn text at K Ns s) where
  pub turn_stuck : {end : ℕ} → NoneNext text at K.tags s end → Stuck text end
  turn_stuck N = inside text at (λ h. token_stuck B N h) (λ h. end_stuck B h (N.ends h))

  module _ {n : Next} (N : NextIs text at K.tags s n) where
    turn_moving : Moving K Ns s.top n.place.top n.place.act
    turn_moving = inside text at (λ h. token_moving B N h) (λ h. end_moving B h (N.ends h))

    turn_top : n.place.top ≤ 1543
    turn_top = inside text at (λ h. token_top B N h) (λ h. end_top B h (N.ends h))

    -- the frames above the place of the move are to be closed
    pub turn_lowers : Lowering K Ns s.top n.place.top
    turn_lowers = lowers turn_moving

    module _ {Ns₁ : Nodes} (L : Lowered K Ns s.top n.place.top Ns₁) where
      pub turn_performs : Performing K Ns₁ s.left n.place
      turn_performs =
          let D = B.reading.stands in
          record {
            making = grow_makes turn_moving L;
            left_fits = level_fits D;
            top_fits = turn_top;
          }

      pub turn_moved : {K₂ : Stack} {Ns₂ : Nodes} {s₂ : Standing} → Moved K Ns₁ s.left n.place n.number K₂ Ns₂ s₂
          → Turned text at K₂ Ns₂ s₂ n.end
      turn_moved {K₂} {Ns₂} {s₂} M =
          let G : Grown K Ns s.top n.place.top n.place.act n.number Ns₂ = grow_made turn_moving L M.made in
          record { taken = λ h. token_reading B N h G M.entered; over = λ h. end_whole B h (N.ends h) G }

-- ---- the loop of `read`: the text is read up to a place where no blank stands, or whole

pub record Midway (text : List ℕ) (at : ℕ) (K : Stack) (Ns : Nodes) (s : Standing) : Type 0 where
  pub before : at ≤ length text → Reading text at K Ns s
  pub no_blank : at < length text → is_blank (get_or text at 0) ≡ false
  pub after : length text < at → Whole text Ns

pub midway_read : {text : List ℕ} {K : Stack} {Ns : Nodes} {s : Standing} {at r : ℕ} → Reading text at K Ns s
    → Skipped text at r
    → Midway text r K Ns s
midway_read R k =
    let w = k.within R.inside in
    record { before = λ h. skipped_read k R; no_blank = k.stops; after = λ h. absurd (omega arith) }

pub before_turn : {text : List ℕ} {K : Stack} {Ns : Nodes} {s : Standing} {at : ℕ} → Midway text at K Ns s
    → at ≤ length text → length text < 18446744073709551615 → BeforeTurn text at K Ns s
before_turn M h l = record { reading = M.before h; no_blank = M.no_blank; small = omega arith }

pub midway_on : {text : List ℕ} {K : Stack} {Ns : Nodes} {s : Standing} {at end r : ℕ} → Turned text at K Ns s end
    → Skipped text end r
    → Midway text r K Ns s × (at < r)
midway_on {text} {K} {Ns} {s} {at} {end} {r} T k = by (ltb at (length text)) refl
  where
    by : (c : Bool) → ltb at (length text) ≡ c → Midway text r K Ns s × (at < r)
    by true z =
        let q = T.taken (ltb-true at (length text) z) in
        let f = k.forth in
        let l = q.1 in
        (midway_read q.0 k, omega arith)
    by false z =
        let h = ltb-false at (length text) z in
        let q = T.over h in
        let l = q.1 in
        let p = k.past (omega arith) in (
          record { before = λ m. absurd (omega arith); no_blank = λ m. absurd (omega arith); after = λ m. q.0 },
          omega arith,
        )

-- ---- the answer, once the text is read whole

abbrev Told : List ℕ → Nodes → Result ℕ Refusal → Type 0
Told text Ns r = MatchResult r (Reached text Ns) (Refuses text)

module _ {text : List ℕ} {Ns : Nodes} (W : Whole text Ns) {r : Result ℕ Refusal} (F : Finished Ns r) where
  pub whole_told : MatchResult r (Reached text Ns) (Refuses text)
  whole_told = by (ltb 1024 Ns.count) refl
    where
      fits : Ns.count ≤ 1024 → (c : Bool) → ltb 256 (get_or Ns.deep 0 0) ≡ c → Told text Ns r
      fits f true l =
          let o = one_left W.rule (W.held f) in
          let n = o.0 in
          let d = o.1 in
          let m = ltb-true 256 (get_or Ns.deep 0 0) l in
          let q = F.too_deep f m in
          rw q (deep_refused text W.rule W.reads (omega arith) (omega arith))
      fits f false l =
          let o = one_left W.rule (W.held f) in
          let d = o.1 in
          let m = ltb-false 256 (get_or Ns.deep 0 0) l in
          let q = F.fits f m in
          rw q (fits_reached text W.rule W.reads o.0 f (omega arith) o.2)

      by : (c : Bool) → ltb 1024 Ns.count ≡ c → Told text Ns r
      by true e =
          let f = ltb-true 1024 Ns.count e in
          let q = F.too_many f in
          rw q (many_refused text W.rule W.reads (W.crowded f))
      by false e = fits (ltb-false 1024 Ns.count e) (ltb 256 (get_or Ns.deep 0 0)) refl
