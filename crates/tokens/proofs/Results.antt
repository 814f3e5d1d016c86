-- A fixed token scanned at a place of the text.
use mathlib.Core.Path.{◌≡◌, refl, sym, ap, ◌∙◌}
use mathlib.Core.Bool.{true, false}
use mathlib.Core.List.{List, ◌∷◌}
use Prim.Native.Nat.{ℕ, suc, ◌+◌, ◌<◌, ◌≤◌}
use native.Mathlib.Omega.{arith}
use lib.Dec.{eqb, lit<}
use lib.ListN.{length, get_or, drop, length-drop}
use lib.Seq.{drop-cons, drop-drop, get_or-drop}
use Rattle.grammar.specs.Token.{mark, skip}
use Rattle.grammar.specs.Spelling.{spell, relation_spelled, is_digit, is_blank, in_word}
use Rattle.grammar.specs.machine.Bytes.{fixed}
use Rattle.tokens.specs.Shape.{Shape, may}
use Rattle.tokens.specs.Scan.{spelled_at, Best, is_word_kind, TokenAt, StuckAt}
use Rattle.tokens.specs.Quick.{Lies}
use Rattle.tokens.proofs.Entries.{entry_at, entry_kind, spelled_some}
use Rattle.tokens.proofs.Common.{common_second}
use Rattle.tokens.proofs.Relations.{relations_may}
use Rattle.tokens.proofs.FixedScan.{broken_halts, word_halts, there_same}
use Rattle.tokens.proofs.Halts.{halts_stuck, parted}

module _ (text : List ℕ) (at : ℕ) (sh : Shape) (best found : ℕ) (l : at < length text) (b : Best sh (drop at text) 27 best found)
    (d : is_digit (get_or text at 0) ≡ false) (v : eqb (get_or text at 0) 118 ≡ false) where
  here : Best sh (get_or text at 0 ∷ drop (suc at) text) 27 best found
  here = rw (drop-cons text at 0 l) at b

  pub fixed_broken : 27 ≤ found → is_blank (get_or text at 0) ≡ false → at + best ≤ length text → StuckAt text at sh (at + best)
  fixed_broken f k w =
      halts_stuck text at sh best (at + best) refl w
      (λ limit S q. rw (drop-cons text at 0 l) (broken_halts S sh q _ _ best found here d v f k))

  pub fixed_word : found < 27 → is_word_kind found ≡ true → at + best < length text → in_word (get_or text (at + best) 0) ≡ true
      → StuckAt text at sh (at + best)
  fixed_word f w h i =
      halts_stuck text at sh best (at + best) refl (omega arith)
      (λ limit S q. let n = length-drop at text in
      let m : best < length (drop at text) = omega arith in
      let j : in_word (get_or (drop at text) best 0) ≡ true = rw (get_or-drop at text best 0) i in
      rw (drop-cons text at 0 l)
      (word_halts S sh q _ _ best found here d v f w (rw (drop-cons text at 0 l) at m) (rw (drop-cons text at 0 l) at j)))

-- ---- a fixed token that is there whole

less_one : length (spelled_at 24) ≡ 1
unfolding spelled_at fixed spell relation_spelled
less_one = refl

pub best_lies : (text : List ℕ) (at : ℕ) (sh : Shape) (best found : ℕ) → Best sh (drop at text) 27 best found → found < 27
    → Lies text at found (at + best)
best_lies text at sh best found b f =
    let w = b.whole f in
    record {
      token = f;
      whole = w.1 ∙ sym w.2;
      ends = ap (λ (n : ℕ). at + n) (sym w.2);
      longest = λ e.
          let m : may sh 24 ≡ true = rw e at w.0 in
          let n : best ≡ 1 = sym w.2 ∙ ap (λ (k : ℕ). length (spelled_at k)) e ∙ less_one in
          let u = b.upper 23 (lit< tt) (relations_may sh ∙ m) in
          omega arith;
    }

pub lies_at : {text : List ℕ} {at k end : ℕ} → Lies text at k end → (sh : Shape) → may sh k ≡ true
    → (is_word_kind k ≡ true → end < length text → in_word (get_or text end 0) ≡ false)
    → TokenAt text at sh (get_or fixed k (mark skip)) end
lies_at {text} {at} {k} {end} y sh m w =
    let n = length (spelled_at k) in
    let c = y.whole in
    let e = y.ends in
    let s = common_second (spelled_at k) (drop at text) in
    let d = length-drop at text in
    let z = spelled_some k y.token in
    let q = entry_kind (entry_at k y.token) in
    let g : drop n (drop at text) ≡ drop end text = drop-drop n at text ∙ ap (λ (i : ℕ). drop i text) (sym e) in
    record {
      allowed = rw q m;
      after = omega arith;
      within = omega arith;
      same = λ S R p t. rw g at (there_same S R k y.token (drop at text) c y.longest (λ h. rw g (parted text end (w h))) t);
    }
