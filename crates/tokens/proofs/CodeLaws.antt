-- What the scanner's functions need, each need one law.
use mathlib.Core.Path.{◌≡◌, refl, sym, ◌∙◌}
use mathlib.Core.Bool.{Bool, true, false, not, ◌&&◌}
use mathlib.Core.List.{List}
use Prim.Native.Nat.{ℕ, zero, suc, ◌+◌, ◌-◌, ◌*◌, ◌<◌, ◌≤◌}
use native.Mathlib.Omega.{arith}
use lib.Dec.{eqb, ltb, leb}
use lib.ListN.{length, get_or, drop, length-drop}
use lib.Seq.{get_or-drop}
use Rattle.std.specs.Prelude.{Some, None, unwrap_or, IfSome}
use Rattle.rules.proofs.ListLaws.{and_true}
use Rattle.grammar.specs.Token.{Token, number, variable, mark, skip}
use Rattle.grammar.specs.Spelling.{is_digit, in_word}
use Rattle.grammar.specs.machine.Bytes.{longer, fixed}
use Rattle.grammar.proofs.bytes.Pendings.{longer_is, digit_is}
use Rattle.tokens.specs.Shape.{Shape, move_of, may}
use Rattle.tokens.specs.Stand.{kind_of}
use Rattle.tokens.specs.Arrays.{Located, standing}
use Rattle.tokens.specs.declared.moves.Standing.{Standing}
use Rattle.tokens.specs.Scan.{Digits, first, next, DigitsRead, spelled_at, spell_number, common, Best, carried, TokenAt}
use Rattle.tokens.specs.Scan.{StuckAt, Scanned, is_word_kind}
use Rattle.tokens.specs.Promise.{WordNext, Furthermost, DigitAt, VAt, AtFixed}
use Rattle.tokens.specs.declared.scan.Furthest.{Furthest}
use Rattle.tokens.proofs.Entries.{spelled_length, spelled_byte, entry_at, entry_kind, entry_fixed, fixed_carries}
use Rattle.tokens.proofs.DigitScan.{number_at, number_word, number_refused, variable_refused, variable_bare, variable_at}
use Rattle.tokens.proofs.DigitScan.{variable_word}
use Rattle.tokens.proofs.Results.{fixed_broken, fixed_word, best_lies, lies_at}
use Rattle.tokens.proofs.Common.{common_on, common_ends, common_second}

-- ---- the test whether a digit goes on

pub tested : (n b : ℕ) {d : Bool} → d ≡ is_digit b → (d && ltb 0 n) ≡ true → (is_digit b ≡ true) × (ltb 0 n ≡ true)
tested n b {d} e h = let k = and_true d (ltb 0 n) h in (sym e ∙ k.0, k.1)

pub test_passed : (most n b : ℕ) {d : Bool} → d ≡ is_digit b → (d && ltb 0 n) ≡ true
    → leb (10 * n + (b - 48)) most ≡ longer most n b
unfolding longer
test_passed most n b e h = let k = tested n b e h in rw (k.0, k.1)

pub test_failed : (most n b : ℕ) {d : Bool} → d ≡ is_digit b → (d && ltb 0 n) ≡ false → false ≡ longer most n b
unfolding longer
test_failed most n b e h = rw (← e, h)

-- ---- digits: the invariant

pub record Counting (most : ℕ) (bs : List ℕ) (at end n : ℕ) : Type 0 where
  pub run : Digits most bs at end n
  pub after : at < end
  pub within : end ≤ length bs
  pub small : n ≤ 2147483647

pub first_digit : (most : ℕ) (bs : List ℕ) (at : ℕ) → at < length bs → is_digit (get_or bs at 0) ≡ true
    → Counting most bs at (at + 1) (get_or bs at 0 - 48)
first_digit most bs at h d =
    let k = digit_is (get_or bs at 0) d in
    record { run = first h d; after = omega arith; within = omega arith; small = omega arith }

pub next_digit : (most : ℕ) (bs : List ℕ) (at end n : ℕ) → most ≤ 2147483647 → Counting most bs at end n → end < length bs
    → longer most n (get_or bs end 0) ≡ true → Counting most bs at (end + 1) (10 * n + (get_or bs end 0 - 48))
next_digit most bs at end n m p h d =
    let k = longer_is most n (get_or bs end 0) d in
    let a = p.after in
    record { run = next p.run h d; after = omega arith; within = omega arith; small = omega arith }

-- ---- what is next

pub word_ends : (text : List ℕ) (end : ℕ) → length text ≤ end → WordNext text end false
word_ends text end h =
    record { goes = λ e. let z : ◌≡◌ {A = ℕ} 0 1 = cc in absurd (omega arith); stops = λ e l. absurd (omega arith) }

pub word_is : (text : List ℕ) (end : ℕ) {r : Bool} → end < length text → r ≡ in_word (get_or text end 0) → WordNext text end r
word_is text end h e = record { goes = λ q. (h, sym e ∙ q); stops = λ q l. sym e ∙ q }

pub may_is : (st : List ℕ) (s : Standing) (kind a t : ℕ) → Located st s kind a t → not (eqb a 0) ≡ may (standing st s) kind
unfolding may move_of
may_is st s kind a t l = let e = l.is in rw e

-- ---- how far a token is there

pub record Matching (text : List ℕ) (at k j : ℕ) : Type 0 where
  pub is : common (spelled_at k) (drop at text) ≡ j + common (drop j (spelled_at k)) (drop j (drop at text))

pub match_start : (text : List ℕ) (at k : ℕ) → Matching text at k 0
match_start text at k = record { is = omega arith }

pub match_on : (text : List ℕ) (at k j len left c : ℕ) → k < 27 → at ≤ length text → len ≡ spell_number k 0
    → left ≡ length text - at → Matching text at k j
    → j < len → j < left → c ≡ spell_number k (1 + j) → get_or text (at + j) 0 ≡ c → Matching text at k (j + 1)
match_on text at k j len left c h w e f m l n b q =
    let s = spelled_length k h in
    let d = length-drop at text in
    let y : get_or (spelled_at k) j 0 ≡ get_or (drop at text) j 0 =
    spelled_byte k h j (omega arith) ∙ sym b ∙ sym q ∙ sym (get_or-drop at text j 0) in
    record { is = common_on (spelled_at k) (drop at text) j (omega arith) (omega arith) y m.is }

pub match_long : (text : List ℕ) (at k j len : ℕ) → k < 27 → len ≡ spell_number k 0 → Matching text at k j → len ≤ j
    → j ≡ common (spelled_at k) (drop at text)
match_long text at k j len h e m l =
    let s = spelled_length k h in
    sym (common_ends (spelled_at k) (drop at text) j (λ x y z. omega arith) m.is)

pub match_end : (text : List ℕ) (at k j left : ℕ) → left ≡ length text - at → Matching text at k j → left ≤ j
    → j ≡ common (spelled_at k) (drop at text)
match_end text at k j left e m l =
    let d = length-drop at text in
    sym (common_ends (spelled_at k) (drop at text) j (λ x y z. omega arith) m.is)

pub match_not : (text : List ℕ) (at k j c : ℕ) → k < 27 → Matching text at k j → c ≡ spell_number k (1 + j)
    → (get_or text (at + j) 0 ≡ c → ⊥) → j ≡ common (spelled_at k) (drop at text)
match_not text at k j c h m b q =
    sym (common_ends (spelled_at k) (drop at text) j
    (λ x y z. let s = spelled_length k h in q
    (sym (get_or-drop at text j 0) ∙ sym z ∙ spelled_byte k h j (omega arith) ∙ sym b)) m.is)

-- all fixed tokens are considered

pub look_ended : (text : List ℕ) (at : ℕ) (st : List ℕ) (s : Standing) (k : ℕ) (f : Furthest)
    → Best (standing st s) (drop at text) k f.best (unwrap_or f.found 27) → IfSome f.found (λ i. i < 27)
    → k ≡ 27 → at ≤ length text → Furthermost text at st s f
look_ended text at st s k f b w e h =
    record { best = rw e at b; few = w; inside = by f.best refl }
  where
    by : (m : ℕ) → f.best ≡ m → at + f.best ≤ length text
    by zero q = omega arith
    by (suc m) q =
        let r = b.reached (omega arith) in
        let c = r.3 in
        let l = common_second (spelled_at r.0) (drop at text) in
        let d = length-drop at text in
        omega arith

-- ---- what is scanned

pub scanned_token : (text : List ℕ) (at : ℕ) (sh : Shape) (t : Token) (kind value end : ℕ) → kind_of t ≡ kind → carried t ≡ value
    → TokenAt text at sh t end → Scanned text at sh kind value end
scanned_token text at sh t kind value end k v a = record { token = (t, k, v, a) }

module _ (text : List ℕ) (at : ℕ) (sh : Shape) where
  pub no_number : {r : Bool} → DigitAt text at → r ≡ may sh 27 → r ≡ false → StuckAt text at sh at
  no_number p e h = number_refused text at sh p.inside p.byte (sym e ∙ h)

  pub number_goes_on : {r w : Bool} {end n : ℕ} → r ≡ may sh 27 → r ≡ true → DigitsRead 2147483647 text at end n
      → WordNext text end w → w ≡ true
      → StuckAt text at sh end
  number_goes_on e h d w q = let g = w.goes q in number_word text at sh d (sym e ∙ h) g.0 g.1

  pub scanned_number : {r w : Bool} {end n : ℕ} → r ≡ may sh 27 → r ≡ true → DigitsRead 2147483647 text at end n
      → WordNext text end w → w ≡ false
      → Scanned text at sh 27 n end
  unfolding kind_of carried
  scanned_number {end = end} {n = n} e h d w q =
      scanned_token text at sh (number n) 27 n end refl refl (number_at text at sh d (sym e ∙ h) (w.stops q))

  pub no_variable : {r : Bool} → VAt text at → r ≡ may sh 28 → r ≡ false → StuckAt text at sh at
  no_variable p e h = variable_refused text at sh p.inside p.byte (sym e ∙ h)

  pub v_alone : {r : Bool} → VAt text at → r ≡ may sh 28 → r ≡ true
      → (at + 1 < length text → is_digit (get_or text (at + 1) 0) ≡ false) → StuckAt text at sh (at + 1)
  v_alone p e h f = variable_bare text at sh p.inside p.byte (sym e ∙ h) f

  pub variable_goes_on : {r w : Bool} {end n : ℕ} → VAt text at → r ≡ may sh 28 → r ≡ true
      → DigitsRead 31 text (at + 1) end n → WordNext text end w → w ≡ true → StuckAt text at sh end
  variable_goes_on p e h d w q = let g = w.goes q in variable_word text at sh p.inside p.byte d (sym e ∙ h) g.0 g.1

  pub scanned_variable : {r w : Bool} {end n : ℕ} → VAt text at → r ≡ may sh 28 → r ≡ true
      → DigitsRead 31 text (at + 1) end n → WordNext text end w → w ≡ false → Scanned text at sh 28 n end
  unfolding kind_of carried
  scanned_variable {end = end} {n = n} p e h d w q =
      scanned_token text at sh (variable n) 28 n end refl refl
      (variable_at text at sh p.inside p.byte d (sym e ∙ h) (w.stops q))

second_false : (a b : Bool) → a ≡ true → (a && b) ≡ false → b ≡ false
second_false a b e h = rw e at h

module _ (text : List ℕ) (at : ℕ) (st : List ℕ) (s : Standing) (f : Furthest)
    (p : AtFixed text at s) (b : Furthermost text at st s f) where
  pub none_there : f.found ≡ None → StuckAt text at (standing st s) (at + f.best)
  none_there h =
      fixed_broken text at (standing st s) f.best 27 p.inside (rw h at b.best) p.no_digit p.no_v (omega arith) p.no_blank
      b.inside

  module _ {k : ℕ} (e : f.found ≡ Some k) where
    best_found : Best (standing st s) (drop at text) 27 f.best k
    best_found = rw e at b.best

    few_found : k < 27
    few_found = rw e at b.few

    pub word_longer : {r w : Bool} → r ≡ is_word_kind k → WordNext text (at + f.best) w → (r && w) ≡ true
        → StuckAt text at (standing st s) (at + f.best)
    word_longer {r} {w} i n h =
        let a = and_true r w h in
        let g = n.goes a.1 in
        fixed_word text at (standing st s) f.best k p.inside best_found p.no_digit p.no_v few_found (sym i ∙ a.0)
        g.0 g.1

    pub token_there : {r w : Bool} → r ≡ is_word_kind k → WordNext text (at + f.best) w → (r && w) ≡ false
        → Scanned text at (standing st s) k 0 (at + f.best)
    token_there {r} {w} i n h =
        let d = entry_at k few_found in
        scanned_token text at (standing st s) (get_or fixed k (mark skip)) k 0 (at + f.best) (entry_kind d)
        (fixed_carries (entry_fixed d))
        (lies_at (best_lies text at (standing st s) f.best k best_found few_found) (standing st s) (best_found.whole few_found).0
        (λ j. n.stops (second_false r w (i ∙ j) h)))
