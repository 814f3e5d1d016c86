-- A number or a variable scanned.
use mathlib.Core.Path.{◌≡◌, refl, ◌∙◌}
use mathlib.Core.Bool.{Bool, true, false}
use mathlib.Core.List.{List}
use mathlib.Core.Option.{none, some}
use Prim.Native.Nat.{ℕ, suc, ◌+◌, ◌-◌, ◌*◌, ◌<◌}
use native.Mathlib.Numerals.{add-one}
use native.Mathlib.Omega.{arith}
use lib.ListN.{length, get_or, drop}
use lib.Seq.{drop-cons}
use borrow.Author.Tests.{eq-eqb, ne_eqb}
use Rattle.grammar.specs.Token.{number, variable}
use Rattle.grammar.specs.Spelling.{is_digit, is_blank, in_word, is_word}
use Rattle.grammar.specs.machine.Reader.{State}
use Rattle.grammar.specs.machine.Bytes.{Pending, digits, letter_v, index, spot, allows, longer, begin, grow, shut, shut_token}
use Rattle.grammar.proofs.bytes.ByteRuns.{Leads, here, on, leads_then, pick_true, pick_false}
use Rattle.grammar.proofs.bytes.TokenBytes.{goes, pending_of}
use Rattle.grammar.proofs.bytes.TokenLaw.{same_then, leads_same, closes_same, stuck_begin}
use Rattle.grammar.proofs.bytes.Pendings.{digit_is}
use Rattle.tokens.specs.Shape.{Shape, may, shape_of}
use Rattle.tokens.specs.Stand.{kind_of}
use Rattle.tokens.proofs.ShapeLaws.{allows_may}
use Rattle.tokens.specs.Scan.{Digits, first, next, DigitsRead, TokenAt, StuckAt}
use Rattle.tokens.proofs.Halts.{stuck_from, stuck_at, parted}

digit_no_blank : (b : ℕ) → is_digit b ≡ true → is_blank b ≡ false
unfolding is_blank
digit_no_blank b h =
    let k = digit_is b h in
    rw (ne_eqb b 32 (λ e. omega arith), ne_eqb b 10 (λ e. omega arith))

digit_no_v : (b : ℕ) → b ≡ 118 → is_digit b ≡ false
unfolding is_digit
digit_no_v b e = rw e

v_no_blank : (b : ℕ) → b ≡ 118 → is_blank b ≡ false
unfolding is_blank
v_no_blank b e = rw e

module _ {limit : ℕ} (S : State limit) (sh : Shape) (shaped : shape_of S ≡ sh) where
  number_may : (k : ℕ) → allows S (number k) ≡ may sh 27
  unfolding kind_of
  number_may k = rw shaped at (allows_may S (number k))

  variable_may : (x : ℕ) → allows S (variable x) ≡ may sh 28
  unfolding kind_of
  variable_may x = rw shaped at (allows_may S (variable x))

module _ {limit : ℕ} (S : State limit) where
  begins_digit : (b : ℕ) → is_digit b ≡ true → allows S (number 0) ≡ true → grow S Pending.nothing b ≡ some (digits (b - 48))
  unfolding grow begin
  begins_digit b h a = rw (h, begin) (pick_true (allows S (number 0)) (digits (b - 48)) a)

  begins_v : (b : ℕ) → b ≡ 118 → allows S (variable 0) ≡ true → grow S Pending.nothing b ≡ some letter_v
  unfolding grow begin
  begins_v b e a = rw (digit_no_v b e, eq-eqb b 118 e, begin) (pick_true (allows S (variable 0)) letter_v a)

  digits_lead : (bs : List ℕ) (at : ℕ) {end n : ℕ} → Digits 2147483647 bs at end n → allows S (number 0) ≡ true
      → Leads (spot S Pending.nothing) (drop at bs) (spot S (digits n)) (drop end bs)
  unfolding grow
  digits_lead bs at (first h d) a = rw (drop-cons bs at 0 h, add-one at) (on (goes (begins_digit (get_or bs at 0) d a)) here)
  digits_lead bs at (next {end = e} {n = n} r h d) a =
      leads_then (digits_lead bs at r a)
      (rw (drop-cons bs e 0 h, add-one e)
      (on (goes (pick_true (longer 2147483647 n (get_or bs e 0)) (digits (10 * n + (get_or bs e 0 - 48))) d)) here))

  index_lead : (bs : List ℕ) (at : ℕ) {end n : ℕ} → Digits 31 bs at end n
      → Leads (spot S letter_v) (drop at bs) (spot S (index n)) (drop end bs)
  unfolding grow
  index_lead bs at (first h d) =
      rw (drop-cons bs at 0 h, add-one at) (on (goes (pick_true (is_digit (get_or bs at 0)) (index (get_or bs at 0 - 48)) d)) here)
  index_lead bs at (next {end = e} {n = n} r h d) =
      leads_then (index_lead bs at r)
      (rw (drop-cons bs e 0 h, add-one e)
      (on (goes (pick_true (longer 31 n (get_or bs e 0)) (index (10 * n + (get_or bs e 0 - 48))) d)) here))

  v_lead : (bs : List ℕ) (at : ℕ) → at < length bs → get_or bs at 0 ≡ 118 → allows S (variable 0) ≡ true
      → Leads (spot S Pending.nothing) (drop at bs) (spot S letter_v) (drop (at + 1) bs)
  v_lead bs at h e a = rw (drop-cons bs at 0 h, add-one at) (on (goes (begins_v (get_or bs at 0) e a)) here)

  number_open : (n : ℕ) → shut S true (digits n) ≡ none
  unfolding shut shut_token is_word
  number_open n = refl

  index_open : (n : ℕ) → shut S true (index n) ≡ none
  unfolding shut shut_token is_word
  index_open n = refl

  v_open : (w : Bool) → shut S w letter_v ≡ none
  unfolding shut
  v_open w = refl

  no_number : (n b : ℕ) → longer 2147483647 n b ≡ false → grow S (digits n) b ≡ none
  unfolding grow
  no_number n b e = pick_false _ _ e

  no_index : (n b : ℕ) → longer 31 n b ≡ false → grow S (index n) b ≡ none
  unfolding grow
  no_index n b e = pick_false _ _ e

  no_v_digit : (b : ℕ) → is_digit b ≡ false → grow S letter_v b ≡ none
  unfolding grow
  no_v_digit b e = pick_false _ _ e

  refused_digit : (b : ℕ) → is_digit b ≡ true → allows S (number 0) ≡ false → begin S b ≡ none
  unfolding begin
  refused_digit b h a = rw (h, begin) (pick_false (allows S (number 0)) (digits (b - 48)) a)

  refused_v : (b : ℕ) → b ≡ 118 → allows S (variable 0) ≡ false → begin S b ≡ none
  unfolding begin
  refused_v b e a = rw (digit_no_v b e, eq-eqb b 118 e, begin) (pick_false (allows S (variable 0)) letter_v a)

module _ (text : List ℕ) (at : ℕ) (sh : Shape) where
  -- ---- numbers

  pub number_at : {end n : ℕ} → DigitsRead 2147483647 text at end n → may sh 27 ≡ true
      → (end < length text → in_word (get_or text end 0) ≡ false)
      → TokenAt text at sh (number n) end
  unfolding kind_of pending_of
  number_at {end} {n} r m w =
      record {
        allowed = m;
        after = r.within.0;
        within = r.within.1;
        same = λ S R q e. same_then (leads_same (digits_lead S text at r.run (number_may S sh q 0 ∙ m)))
            (closes_same S R (number n) (drop end text) (λ h. parted text end w)
            (λ z. let y : ◌≡◌ {A = ℕ} 0 1 = cc in absurd (omega arith)) e);
      }

  pub number_word : {end n : ℕ} → DigitsRead 2147483647 text at end n → may sh 27 ≡ true → end < length text
      → in_word (get_or text end 0) ≡ true
      → StuckAt text at sh end
  number_word {end} {n} r m l w =
      let a = r.within in
      stuck_from text at sh end (omega arith) a.1
      (λ limit S q. (
        spot S (digits n),
        digits_lead S text at r.run (number_may S sh q 0 ∙ m),
        stuck_at S (digits n) text end (λ h. no_number S n (get_or text end 0) (r.stops h)) (λ h. rw w (number_open S n))
            (λ h. absurd (omega arith)),
      ))

  refused : at < length text → ((limit : ℕ) (S : State limit) → shape_of S ≡ sh → begin S (get_or text at 0) ≡ none)
      → is_blank (get_or text at 0) ≡ false
      → StuckAt text at sh at
  refused l h k =
      stuck_from text at sh at (omega arith) (omega arith)
      (λ limit S q. (
        spot S Pending.nothing,
        here,
        rw (drop-cons text at 0 l)
            (stuck_begin S (get_or text at 0) (drop (suc at) text) (h limit S q) k),
      ))

  pub number_refused : at < length text → is_digit (get_or text at 0) ≡ true → may sh 27 ≡ false → StuckAt text at sh at
  number_refused l d m = refused l (λ limit S q. refused_digit S (get_or text at 0) d (number_may S sh q 0 ∙ m)) (digit_no_blank _ d)

  -- ---- variables

  pub variable_refused : at < length text → get_or text at 0 ≡ 118 → may sh 28 ≡ false → StuckAt text at sh at
  variable_refused l d m = refused l (λ limit S q. refused_v S (get_or text at 0) d (variable_may S sh q 0 ∙ m)) (v_no_blank _ d)

  pub variable_bare : at < length text → get_or text at 0 ≡ 118 → may sh 28 ≡ true
      → (at + 1 < length text → is_digit (get_or text (at + 1) 0) ≡ false) → StuckAt text at sh (at + 1)
  variable_bare l d m f =
      stuck_from text at sh (at + 1) (omega arith) (omega arith)
      (λ limit S q. (
        spot S letter_v,
        v_lead S text at l d (variable_may S sh q 0 ∙ m),
        stuck_at S letter_v text (at + 1) (λ h. no_v_digit S (get_or text (at + 1) 0) (f h))
            (λ h. v_open S (in_word (get_or text (at + 1) 0))) (λ h. v_open S false),
      ))

  pub variable_at : {end n : ℕ} → at < length text → get_or text at 0 ≡ 118 → DigitsRead 31 text (at + 1) end n → may sh 28 ≡ true
      → (end < length text → in_word (get_or text end 0) ≡ false) → TokenAt text at sh (variable n) end
  unfolding kind_of pending_of
  variable_at {end} {n} l d r m w =
      let a = r.within in
      record {
        allowed = m;
        after = omega arith;
        within = a.1;
        same = λ S R q e. same_then
            (leads_same (leads_then (v_lead S text at l d (variable_may S sh q 0 ∙ m)) (index_lead S text (at + 1) r.run)))
            (closes_same S R (variable n) (drop end text) (λ h. parted text end w)
            (λ z. let y : ◌≡◌ {A = ℕ} 0 1 = cc in absurd (omega arith)) e);
      }

  pub variable_word : {end n : ℕ} → at < length text → get_or text at 0 ≡ 118 → DigitsRead 31 text (at + 1) end n → may sh 28 ≡ true
      → end < length text → in_word (get_or text end 0) ≡ true → StuckAt text at sh end
  variable_word {end} {n} l d r m k w =
      let a = r.within in
      stuck_from text at sh end (omega arith) a.1
      (λ limit S q. (
        spot S (index n),
        leads_then (v_lead S text at l d (variable_may S sh q 0 ∙ m)) (index_lead S text (at + 1) r.run),
        stuck_at S (index n) text end (λ h. no_index S n (get_or text end 0) (r.stops h)) (λ h. rw w (index_open S n))
            (λ h. absurd (omega arith)),
      ))
