-- Bytes that are at a place of the text: tests that find them, and how much of a spelling they are.
use mathlib.Core.Path.{◌≡◌, refl, sym, ap, ◌∙◌}
use mathlib.Core.Bool.{Bool, true, false}
use mathlib.Core.List.{List, [], ◌∷◌, ◌++◌}
use Prim.Native.Nat.{ℕ, suc, ◌+◌, ◌-◌, ◌<◌, ◌≤◌}
use native.Mathlib.Omega.{arith}
use native.Mathlib.Numerals.{add-one}
use lib.Dec.{eqb, ltb}
use lib.ListN.{length, get_or, take, drop, length-drop}
use lib.Seq.{drop-cons}
use borrow.Author.Tests.{eqb-true, eq-eqb, ltb-true, ltb-false}
use Rattle.std.specs.List.{starts_with}
use Rattle.std.proofs.lemmas.Bool.Decides.{Decides-eqb}
use Rattle.std.proofs.lemmas.List.{take_all}
use Rattle.std.proofs.lemmas.Slice.Eq.{starts_is}
use Rattle.std.specs.Prelude.{nat_eq}
use Rattle.tokens.specs.Scan.{common}
use Rattle.tokens.specs.Quick.{Spelled, nothing, byte, Next}
use Rattle.tokens.proofs.Common.{common_more, common_none, common_second}

pub clash : (b : Bool) → b ≡ true → b ≡ false → ⊥
clash b e f = let z : ◌≡◌ {A = ℕ} 0 1 = cc in omega arith

-- no test that fails says that bytes are there
no_test : {A : Type 0} → false ≡ true → A
no_test e = let z : ◌≡◌ {A = ℕ} 0 1 = cc in absurd (omega arith)

pub next_past : {text : List ℕ} {at b : ℕ} → length text ≤ at → Next text at b false
next_past h = record { there = no_test; other = λ e l. absurd (omega arith) }

spelled_one : {text : List ℕ} {at b : ℕ} → at < length text → eqb (get_or text at 0) b ≡ true → Spelled text at (b ∷ [])
spelled_one {at = at} h e = byte h (eqb-true _ _ e) (nothing {at = at + 1} (omega arith))

pub next_is : {text : List ℕ} {at : ℕ} (b : ℕ) → at < length text → Next text at b (eqb (get_or text at 0) b)
next_is {text} {at} b h =
    record { there = spelled_one h; other = λ e l q. clash (eqb (get_or text at 0) b) (eq-eqb (get_or text at 0) b q) e }

pub spelled_within : {text : List ℕ} {at : ℕ} {bs : List ℕ} → Spelled text at bs → at + length bs ≤ length text
spelled_within (nothing h) = omega arith
spelled_within (byte h e s) = let w = spelled_within s in omega arith

spelled_front : (text : List ℕ) (at : ℕ) (bs rest : List ℕ) → at ≤ length text → drop at text ≡ bs ++ rest → Spelled text at bs
spelled_front text at [] rest h e = nothing h
spelled_front text at (b ∷ bs) rest h e =
    let l : at < length text = omega (arith, length-drop at text, ap length e) in
    let f = sym (drop-cons text at 0 l) ∙ e in
    let t : drop (suc at) text ≡ bs ++ rest = cc in
    byte l (cc) (spelled_front text (at + 1) bs rest (omega arith) (rw (add-one at) t))

-- what is left of the text begins with these bytes
pub spelled_starts : (text : List ℕ) (at : ℕ) (bs : List ℕ) → at ≤ length text
    → starts_with nat_eq (take (length text - at) (drop at text)) bs ≡ true → Spelled text at bs
spelled_starts text at bs h e =
    let n = length-drop at text in
    let a : take (length text - at) (drop at text) ≡ drop at text = take_all (length text - at) (drop at text) (omega arith) in
    let s : starts_with nat_eq (drop at text) bs ≡ true = rw a at e in
    spelled_front text at bs _ h ((starts_is Decides-eqb (drop at text) bs _ refl).0 s)

pub spelled_common : {text : List ℕ} {at : ℕ} {bs : List ℕ} → Spelled text at bs → common bs (drop at text) ≡ length bs
unfolding common
spelled_common (nothing h) = refl
spelled_common {text} {at} (byte {b = b} {bs = bs} h e s) =
    let c = common_more bs (drop (suc at) text) b (get_or text at 0) (sym e) in
    let r = spelled_common s in
    rw (drop-cons text at 0 h) (c ∙ ap suc (rw (← add-one at) r))

pub other_common : {text : List ℕ} {at b : ℕ} {r : Bool} → Next text at b r → r ≡ false → common (b ∷ []) (drop at text) ≡ 0
other_common {text} {at} {b} n f = by (ltb at (length text)) refl
  where
    by : (t : Bool) → ltb at (length text) ≡ t → common (b ∷ []) (drop at text) ≡ 0
    by true e =
        let h = ltb-true at (length text) e in
        rw (drop-cons text at 0 h) (common_none [] (drop (suc at) text) b (get_or text at 0) (λ q. n.other f h (sym q)))
    by false e =
        let h = ltb-false at (length text) e in
        let c = common_second (b ∷ []) (drop at text) in
        let d = length-drop at text in
        omega arith
