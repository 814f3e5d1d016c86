-- The loop over the text: its invariant holds at the start, over blanks and over a token; and what it tells where the reader is stuck.
use mathlib.Core.Path.{◌≡◌, refl, sym, ◌∙◌}
use mathlib.Core.Bool.{true}
use mathlib.Core.List.{List, ◌∷◌}
use Prim.Native.Nat.{ℕ, zero, suc, ◌+◌, ◌-◌, ◌<◌, ◌≤◌}
use native.Mathlib.Numerals.{add-one}
use native.Mathlib.Omega.{arith}
use lib.ListN.{length, get_or, drop, length-drop}
use lib.Seq.{drop-cons}
use Rattle.grammar.specs.Spelling.{is_blank}
use Rattle.grammar.specs.machine.Reader.{start}
use Rattle.grammar.specs.machine.Bytes.{read_text, taken_of}
use Rattle.grammar.specs.Typed.{told}
use Rattle.grammar.specs.machine.Answer.{refusal_of, typed_refusal}
use Rattle.std.specs.Prelude.{Result, Ok, Err, MatchResult, IsErrAnd}
use Rattle.rules.specs.Refusal.{refusal}
use Rattle.rules.specs.declared.Refusal.{Refusal}
use Rattle.grammar.proofs.bytes.TokenLaw.{same_then, blank_same}
use Rattle.tokens.specs.declared.moves.Stack.{Stack}
use Rattle.tokens.specs.declared.moves.Standing.{Standing}
use Rattle.grammar.specs.Token.{Token}
use Rattle.tokens.specs.declared.Found.{Found}
use Rattle.tokens.specs.Taken.{Taken}
use Rattle.tokens.specs.Flat.{sizes, figure_number, figure_of, tag_of, frames_of, nodes_of}
use Rattle.tokens.specs.Stand.{kind_of, earlier, frames, kept, flat_of}
use Rattle.tokens.specs.Shape.{tags, forget}
use Rattle.tokens.specs.Arrays.{standing, stack, Located, Entered}
use Rattle.tokens.specs.Scan.{StuckAt}
use Rattle.tokens.proofs.ShapeLaws.{Leads}
use Rattle.rule.specs.declared.turns.Next.{Next}
use Rattle.rule.specs.declared.nodes.Nodes.{Nodes}
use Rattle.rule.specs.inside.Nodes.{Holds, roots_of, depths_of, written_of, figures}
use Rattle.rule.specs.inside.Turns.{Stands, Moving, Grown, Reading, Skipped, NoNodes, BeforeTurn, AtNext, AtEnd, LeftOpen, NextIs, NoneNext, Stuck, Refuses}
use Rattle.rule.proofs.TurnLaws.{moving, leads, top_few, top_fits}
use Rattle.rule.proofs.EnterLaws.{turned}

-- ---- the start

pub starts : {text : List ℕ} {K : Stack} {Ns : Nodes} {s : Standing} → get_or K.tags 0 0 ≡ 19 → get_or K.figures 0 0 ≡ 0 → NoNodes Ns → s.mode ≡ 0 → s.left ≡ 256 → s.top ≡ 1 → Reading text 0 K Ns s
unfolding flat_of forget frames kept earlier frames_of nodes_of tags tag_of figures figure_of figure_number stack roots_of depths_of written_of sizes
starts {Ns = Ns} s0 a0 N m l t =
    let d = N.none_there in
    let c = N.none_written in
    record {
      state = start;
      stands = record {
        shaped = rw (m, l, t, s0);
        figured = λ e. rw (t, a0);
        held = λ e. held d c;
        crowded = λ e. absurd (omega arith);
        most = omega arith;
      };
      same = record { reads = refl; place = refl };
      inside = omega arith;
    }
  where
    held : {d c : ℕ} → d ≡ 0 → c ≡ 0 → Holds (nodes_of (flat_of start)) Ns.roots Ns.deep Ns.words d c
    held d c = rw (d, c) (record { roots_are = refl; depths_are = refl; words_are = refl; count_is = refl })

-- ---- blanks

blank_read : {text : List ℕ} {K : Stack} {Ns : Nodes} {s : Standing} {at : ℕ}
    → Reading text at K Ns s → at < length text → is_blank (get_or text at 0) ≡ true
    → Reading text (at + 1) K Ns s
blank_read {text} {at = at} r l blank =
    let split : drop at text ≡ get_or text at 0 ∷ drop (at + 1) text = rw (add-one at) (drop-cons text at 0 l) in
    record {
      state = r.state;
      stands = r.stands;
      same = same_then r.same (rw split (blank_same r.state (get_or text at 0) (drop (at + 1) text) blank));
      inside = omega arith;
    }

pub blanks_read : {text : List ℕ} {K : Stack} {Ns : Nodes} {s : Standing} (n at : ℕ) {r : ℕ} → r ≡ at + n → r ≤ length text
    → ((i : ℕ) → at ≤ i → i < r → is_blank (get_or text i 0) ≡ true) → Reading text at K Ns s
    → Reading text r K Ns s
blanks_read zero at {r} e h k R = let z : r ≡ at = omega arith in rw z R
blanks_read (suc n) at e h k R =
    blanks_read n (at + 1) (omega arith) h (λ i l m. k i (omega arith) m) (blank_read R (omega arith) (k at (omega arith) (omega arith)))

pub skipped_read : {text : List ℕ} {K : Stack} {Ns : Nodes} {s : Standing} {at r : ℕ} → Skipped text at r
    → Reading text at K Ns s → Reading text r K Ns s
skipped_read {at = at} {r = r} k R =
    let i = R.inside in
    let f = k.forth in
    blanks_read (r - at) at (omega arith) (k.within i) k.blanks R

-- ---- `skip_blanks`

-- what is passed so far are blanks
pub record Skipping (text : List ℕ) (from at : ℕ) : Type 0 where
  pub forth : from ≤ at
  pub within : from ≤ length text → at ≤ length text
  pub past : length text < from → at ≡ from
  pub blanks : (i : ℕ) → from ≤ i → i < at → is_blank (get_or text i 0) ≡ true

-- ---- a token

module _ {text : List ℕ} {K : Stack} {Ns : Nodes} {s : Standing} {at : ℕ}
    (B : BeforeTurn text at K Ns s) where
  abbrev D : Stands B.reading.state K Ns s
  D = B.reading.stands

  pub at_next : AtNext text at s
  at_next = record { fits = top_fits D; no_blank = B.no_blank; small = B.small }

  -- nothing leads on, at a byte
  pub token_stuck : {end : ℕ} → NoneNext text at K.tags s end → at < length text → Stuck text end
  unfolding read_text taken_of
  token_stuck N h =
      let R = B.reading in
      let k = N.stuck h in
      let u = k.unread R.state D.shaped in
      let p = k.place R.state D.shaped in
      let q = R.same.place in
      let d = length-drop at text in
      let i = R.inside in
      record { unread = R.same.reads ∙ u; place = omega arith }

  module _ {n : Next} (N : NextIs text at K.tags s n) where
    module _ (h : at < length text) where
      abbrev token : Token
      token = (N.token h).0

      located : Located K.tags s (kind_of token) n.place.act n.place.top
      located = (N.token h).3

      leads_on : Leads B.reading.state token n.place.act (stack K.tags n.place.top)
      leads_on = leads B.reading.state token D located (N.token h).4

      pub token_moving : Moving K Ns s.top n.place.top n.place.act
      token_moving = moving B.reading.state token D leads_on (top_fits D)

      pub token_top : n.place.top ≤ 1543
      token_top = let l = located.below in let f = top_few D in omega arith

      pub token_reading : {K₂ : Stack} {Ns₂ : Nodes} {s₂ : Standing}
          → Grown K Ns s.top n.place.top n.place.act n.number Ns₂ → Entered K.tags K.figures s.left n.place n.number K₂.tags K₂.figures s₂
          → Reading text n.end K₂ Ns₂ s₂ × (at < n.end)
      token_reading G E =
          let a = (N.token h).2 in (
            record {
              state = leads_on.state;
              stands = turned B.reading.state token D located (N.token h).1 leads_on G refl refl E;
              same = same_then B.reading.same (a.same B.reading.state leads_on.state D.shaped leads_on.step_is);
              inside = a.within;
            },
            a.after,
          )

-- ---- what is next

pub next_token : {text st : List ℕ} {at : ℕ} {s : Standing} {t : Found} → Taken text at st s t → at < length text
    → NextIs text at st s (record { end = t.end; place = t.place; number = t.number })
next_token T h =
    record {
      token = λ z.
          let q = T.token in
          let m = q.1 in
          (q.0, q.2, q.3, rw m q.4, q.5);
      ends = λ l. absurd (omega arith);
    }

pub next_stuck : {text st : List ℕ} {at end : ℕ} {s : Standing} → StuckAt text at (standing st s) end → at < length text
    → NoneNext text at st s end
next_stuck a h = record { stuck = λ z. a; ends = λ l. absurd (omega arith) }

pub next_end : {text st : List ℕ} {at : ℕ} {s : Standing} {n : Next} → length text ≤ at → AtEnd st s at n → NextIs text at st s n
next_end h E = record { token = λ l. absurd (omega arith); ends = λ l. E }

pub none_end : {text st : List ℕ} {at : ℕ} {s : Standing} {end : ℕ} → length text ≤ at → LeftOpen st s at end → NoneNext text at st s end
none_end h E = record { stuck = λ l. absurd (omega arith); ends = λ l. E }

-- and what the end of the text answers is what is next there
pub next_either : (text st : List ℕ) (at : ℕ) (s : Standing) → length text ≤ at → (r : Result Next ℕ)
    → MatchResult r (AtEnd st s at) (LeftOpen st s at) → MatchResult r (NextIs text at st s) (NoneNext text at st s)
next_either text st at s h (Ok n) E = next_end h E
next_either text st at s h (Err e) E = none_end h E

-- ---- stuck

pub stuck_refused : {text : List ℕ} {place : ℕ} → Stuck text place → Refuses text (refusal 17 (told place))
unfolding typed_refusal refusal_of
stuck_refused S =
    let e = S.unread in
    let q = S.place in
    record { is = λ room. rw (e, q) }

-- what `map_err` makes of a turn, where it is an error
pub stuck_told : (text : List ℕ) (P : ℕ → Type 0) (a : Result ℕ ℕ) (m : Result ℕ Refusal) {r : Refusal}
    → MatchResult a (λ x. m ≡ Ok x) (λ e. IsErrAnd m (λ q. q ≡ refusal 17 (told e))) → m ≡ Err r → MatchResult a P (Stuck text) → Refuses text r
stuck_told text P (Ok x) m k w h = let z : ◌≡◌ {A = Result ℕ Refusal} (Err _) (Ok x) = sym w ∙ k in absurd cc
stuck_told text P (Err e) m {r} k w S =
    let q : r ≡ refusal 17 (told e) = rw w at k in
    rw q (stuck_refused S)

-- and where it is not
pub turn_told : (text : List ℕ) (P : ℕ → Type 0) (Q : ℕ → Refusal → Type 0) (a : Result ℕ ℕ) (m : Result ℕ Refusal) {t : ℕ}
    → MatchResult a (λ x. m ≡ Ok x) (λ e. IsErrAnd m (Q e)) → m ≡ Ok t → MatchResult a P (Stuck text) → P t
turn_told text P Q (Ok x) m {t} k w h = let z : x ≡ t = let y : ◌≡◌ {A = Result ℕ Refusal} (Ok x) (Ok t) = sym k ∙ w in cc in rw (← z) h
turn_told text P Q (Err e) m {t} k w h = absurd (rw w at k)
