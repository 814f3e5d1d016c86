-- Where the machine on bytes halts.
use mathlib.Core.Path.{◌≡◌, refl, ◌∙◌}
use mathlib.Core.Bool.{Bool, true, false}
use mathlib.Core.List.{List, [], ◌∷◌}
use mathlib.Core.Option.{none}
use Prim.Native.Nat.{ℕ, zero, suc, ◌+◌, ◌<◌, ◌≤◌}
use native.Mathlib.Omega.{arith}
use lib.Dec.{ltb}
use lib.ListN.{length, get_or, drop, length-drop}
use lib.Seq.{drop-cons, drop-nil}
use borrow.Author.Tests.{ltb-true, ltb-false}
use Rattle.grammar.specs.Spelling.{in_word, begins_in_word}
use Rattle.grammar.specs.machine.Reader.{State, next}
use Rattle.grammar.specs.machine.Bytes.{Pending, Spot, spot, grow, shut, byte_end, next_spot, reach_bytes, read_from, taken}
use Rattle.grammar.proofs.bytes.ByteRuns.{Leads}
use Rattle.grammar.proofs.bytes.TokenLaw.{Stuck, leads_same, stuck_pending}
use Rattle.tokens.specs.Shape.{Shape, shape_of}
use Rattle.tokens.specs.Scan.{StuckAt}

pub past : (l : List ℕ) (j : ℕ) → length l ≤ j → drop j l ≡ []
past [] j h = drop-nil j
past (x ∷ l) zero h = absurd (omega arith)
past (x ∷ l) (suc j) h = past l j (omega arith)

module _ {limit : ℕ} where
  -- B takes n bytes of bs and no more
  pub record Halts (B : Spot limit) (bs : List ℕ) (n : ℕ) : Type 0 where
    pub reads : read_from B bs ≡ none
    pub place : taken B bs ≡ n

  pub leads_halts : {B C : Spot limit} (bs : List ℕ) (n : ℕ) → n ≤ length bs → Leads B bs C (drop n bs) → Stuck C (drop n bs)
      → Halts B bs n
  leads_halts bs n h l s =
      let m = leads_same l in
      let p = m.place in
      let q = s.place in
      let d = length-drop n bs in
      record { reads = m.reads ∙ s.reads; place = omega arith }

  stuck_end : (S : State limit) (P : Pending) → shut S false P ≡ none → Stuck (spot S P) []
  unfolding read_from reach_bytes next_spot byte_end taken next
  stuck_end S P e = record { reads = rw e; place = refl }

  -- what is pending neither grows nor is closed, at the next byte or at the end
  pub stuck_at : (S : State limit) (P : Pending) (bs : List ℕ) (n : ℕ) → (n < length bs → grow S P (get_or bs n 0) ≡ none)
      → (n < length bs → shut S (in_word (get_or bs n 0)) P ≡ none) → (length bs ≤ n → shut S false P ≡ none)
      → Stuck (spot S P) (drop n bs)
  stuck_at S P bs n g s f = by (ltb n (length bs)) refl
    where
      by : (b : Bool) → ltb n (length bs) ≡ b → Stuck (spot S P) (drop n bs)
      by true e =
          let h = ltb-true n (length bs) e in rw (drop-cons bs n 0 h)
          (stuck_pending S P (get_or bs n 0) (drop (suc n) bs) (g h) (s h))
      by false e = let h = ltb-false n (length bs) e in rw (past bs n h) (stuck_end S P (f h))

pub halts_stuck : (text : List ℕ) (at : ℕ) (sh : Shape) (n end : ℕ) → at + n ≡ end → end ≤ length text
    → ((limit : ℕ) (S : State limit) → shape_of S ≡ sh → Halts (spot S Pending.nothing) (drop at text) n) → StuckAt text at sh end
halts_stuck text at sh n end e w h =
    record {
      within = w;
      unread = λ {limit} S q. (h limit S q).reads;
      place = λ {limit} S q. let p = (h limit S q).place in omega arith;
    }

pub stuck_from : (text : List ℕ) (at : ℕ) (sh : Shape) (end : ℕ) → at ≤ end → end ≤ length text
    → ((limit : ℕ) (S : State limit) → shape_of S ≡ sh
    → (C : Spot limit) × Leads (spot S Pending.nothing) (drop at text) C (drop end text) × Stuck C (drop end text))
    → StuckAt text at sh end
stuck_from text at sh end a w h =
    record {
      within = w;
      unread = λ {limit} S q. let r = h limit S q in (leads_same r.1).reads ∙ r.2.reads;
      place = λ {limit} S q. let r = h limit S q in
          let m = (leads_same r.1).place in
          let n = r.2.place in
          let d = length-drop at text in
          let e = length-drop end text in
          omega arith;
    }

-- what is next begins no word
pub parted : (text : List ℕ) (end : ℕ) → (end < length text → in_word (get_or text end 0) ≡ false)
    → begins_in_word (drop end text) ≡ false
unfolding begins_in_word
parted text end h = by (ltb end (length text)) refl
  where
    by : (b : Bool) → ltb end (length text) ≡ b → begins_in_word (drop end text) ≡ false
    by true e = let l = ltb-true end (length text) e in rw (drop-cons text end 0 l) (h l)
    by false e = rw (past text end (ltb-false end (length text) e))
