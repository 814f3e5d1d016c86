-- The fast path: what the class of a byte tells, a fixed token that is there, and the token that is found.
use mathlib.Core.Path.{◌≡◌, refl, sym, ap, ◌∙◌}
use mathlib.Core.Bool.{Bool, true, false, not, ◌&&◌, cond}
use mathlib.Core.List.{List, [], ◌∷◌}
use Prim.Native.Nat.{ℕ, zero, suc, ◌+◌, ◌*◌, ◌-◌, ◌<◌, ◌≤◌}
use native.Mathlib.Omega.{arith}
use native.Mathlib.Numerals.{add-one}
use lib.Dec.{eqb, ltb, lit<}
use lib.ListN.{length, get_or, drop, get_or-eq_default}
use lib.Seq.{get_or-drop, get_or-take, drop-cons}
use borrow.Author.Tests.{eqb-true, eq-eqb, ne_eqb, ltb-true, ltb-false, lt-ltb, le-ltb, lt-leb, le-leb, not-true}
use Rattle.rules.specs.Lists.{every}
use Rattle.rules.proofs.ListLaws.{and_true, every_true}
use Rattle.grammar.specs.Token.{number, variable, mark, skip}
use Rattle.grammar.specs.Spelling.{spell, mark_spelled, relation_spelled, truth_spelled, is_digit, is_letter, in_word, is_blank}
use Rattle.grammar.specs.machine.Bytes.{fixed}
use Rattle.tokens.specs.Tables.{spellings, classes}
use Rattle.tokens.specs.Stand.{kind_of}
use Rattle.tokens.specs.Arrays.{Spellings, Classes}
use Rattle.tokens.specs.Scan.{DigitsRead, spelled_at, spell_number, common, is_word_kind, carried}
use Rattle.tokens.specs.Promise.{WordNext, DigitAt, VAt}
use Rattle.tokens.specs.Quick.{class_of, word_class, ClassAt, Spelled, nothing, byte, Are, Next, Lies, Begun, Held, Quick}
use Rattle.tokens.proofs.Entries.{entry_at, entry_kind, entry_fixed, fixed_carries, spelled_length, spelled_byte}
use Rattle.tokens.proofs.Entries.{spelled_some}
use Rattle.tokens.proofs.Common.{common_more, whole_there}
use Rattle.tokens.proofs.DigitScan.{number_at, variable_at}
use Rattle.tokens.proofs.Results.{lies_at}
use Rattle.tokens.proofs.SpelledLaws.{clash, spelled_within, spelled_common, other_common}
use Rattle.tokens.proofs.CodeLaws.{word_is}

-- ---- the tables

inside : (l : List ℕ) (i d e : ℕ) → i < length l → get_or l i d ≡ get_or l i e
inside [] i d e h = absurd (omega arith)
inside (x ∷ l) zero d e h = refl
inside (x ∷ l) (suc i) d e h = inside l i d e (omega arith)

pub spelling_read : {l : List ℕ} → Spellings l → (k j : ℕ) → get_or l (8 * k + j) 0 ≡ spell_number k j
unfolding spell_number
spelling_read t k j = ap (λ (l : List ℕ). get_or l (8 * k + j) 0) t.is

pub length_read : {l : List ℕ} → Spellings l → (k : ℕ) → get_or l (8 * k) 0 ≡ spell_number k 0
length_read {l} t k = let e : 8 * k ≡ 8 * k + 0 = omega arith in ap (λ (i : ℕ). get_or l i 0) e ∙ spelling_read t k 0

pub class_read : {l : List ℕ} → Classes l → (b : ℕ) → b < 256 → get_or l b 0 ≡ class_of b
unfolding class_of classes
class_read t b h = ap (λ (l : List ℕ). get_or l b 0) t.is ∙ inside classes b 0 29 h

-- ---- tests over the tables

unfoldable agree : Bool → Bool → Bool
agree true b = b
agree false b = not b

agreed : (a b : Bool) → agree a b ≡ true → a ≡ b
unfolding agree
agreed true b e = sym e
agreed false true e = e
agreed false false e = refl

-- the token of a class
unfoldable kind_in : ℕ → ℕ
kind_in c = cond (ltb c 32) c (cond (ltb c 64) (c - 32) (c - 64))

unfoldable first_fits : ℕ → ℕ → Bool
first_fits k b =
    cond (ltb k 27) (eqb (spell_number k 1) b && not (eqb k 24))
    (cond (eqb k 27) (is_digit b) (cond (eqb k 28) (eqb b 118) true))

-- a class of bytes that are tokens by themselves
unfoldable alone_fits : ℕ → Bool
alone_fits c = cond (ltb c 64) true (not (word_class c) && (ltb (c - 64) 27 && eqb (spell_number (c - 64) 0) 1))

unfoldable class_fits : ℕ → Bool
class_fits b =
    agree (eqb (class_of b) 30) (is_blank b)
    && (agree (word_class (class_of b)) (in_word b) && (first_fits (kind_in (class_of b)) b && alone_fits (class_of b)))

byte_fits : (b : ℕ) → b < 256 → class_fits b ≡ true
unfolding every class_fits first_fits alone_fits word_class kind_in agree class_of classes spell_number spellings is_blank in_word is_digit is_letter
byte_fits = every_true class_fits 256 refl

no_byte : (b : ℕ) → 256 ≤ b → (is_blank b ≡ false) × (in_word b ≡ false)
unfolding is_blank in_word is_digit is_letter
no_byte b h =
    let p = lt-leb b 57 (omega arith) in
    let q = lt-leb b 90 (omega arith) in
    let r = lt-leb b 122 (omega arith) in
    let s = le-leb 48 b (omega arith) in
    let t = le-leb 65 b (omega arith) in
    let u = le-leb 97 b (omega arith) in
    (rw (ne_eqb b 32 (λ e. omega arith), ne_eqb b 10 (λ e. omega arith)), rw (p, q, r, s, t, u))

past_fits : (b : ℕ) → 256 ≤ b → class_fits b ≡ true
unfolding class_fits first_fits alone_fits word_class kind_in agree class_of classes
past_fits b h =
    let e : get_or classes b 29 ≡ 29 = get_or-eq_default classes 29 h in
    let n = no_byte b h in
    rw (e, n.0, n.1)

class_fits_lem : (b : ℕ) → class_fits b ≡ true
class_fits_lem b = by (ltb b 256) refl
  where
    by : (t : Bool) → ltb b 256 ≡ t → class_fits b ≡ true
    by true e = byte_fits b (ltb-true b 256 e)
    by false e = past_fits b (ltb-false b 256 e)

-- what the class of a byte tells
pub class_blank : (b : ℕ) → eqb (class_of b) 30 ≡ is_blank b
unfolding class_fits
class_blank b = agreed _ _ (and_true _ _ (class_fits_lem b)).0

class_rest : (b : ℕ) → (agree (word_class (class_of b)) (in_word b) ≡ true)
    × ((first_fits (kind_in (class_of b)) b && alone_fits (class_of b)) ≡ true)
unfolding class_fits
class_rest b =
    let r =
    and_true (agree (eqb (class_of b) 30) (is_blank b))
    (agree (word_class (class_of b)) (in_word b) && (first_fits (kind_in (class_of b)) b && alone_fits (class_of b))) (class_fits_lem b) in
    and_true _ _ r.1

pub class_word : (b : ℕ) → word_class (class_of b) ≡ in_word b
class_word b = agreed _ _ (class_rest b).0

class_first : (b : ℕ) → first_fits (kind_in (class_of b)) b ≡ true
class_first b = (and_true (first_fits (kind_in (class_of b)) b) (alone_fits (class_of b)) (class_rest b).1).0

class_alone : (b : ℕ) → alone_fits (class_of b) ≡ true
class_alone b = (and_true (first_fits (kind_in (class_of b)) b) (alone_fits (class_of b)) (class_rest b).1).1

words_fit : (k : ℕ) → k < 27 → agree (is_word_kind k) (in_word (spell_number k 1)) ≡ true
unfolding every agree is_word_kind in_word is_digit is_letter spell_number spellings
words_fit = every_true (λ k. agree (is_word_kind k) (in_word (spell_number k 1))) 27 refl

-- ---- what the first byte tells

first_begins : (k b : ℕ) → first_fits k b ≡ true → k < 27 → (spell_number k 1 ≡ b) × (k ≡ 24 → ⊥)
unfolding first_fits
first_begins k b e h =
    let n : (eqb (spell_number k 1) b && not (eqb k 24)) ≡ true = rw (lt-ltb k 27 h) at e in
    let a = and_true _ _ n in
    (eqb-true _ b a.0, λ z. let y : not (eqb 24 24) ≡ true = rw z at a.1 in let x : ◌≡◌ {A = ℕ} 0 1 = cc in omega arith)

first_digit : (k b : ℕ) → first_fits k b ≡ true → k ≡ 27 → is_digit b ≡ true
unfolding first_fits
first_digit k b e z = rw z at e

first_v : (k b : ℕ) → first_fits k b ≡ true → k ≡ 28 → b ≡ 118
unfolding first_fits
first_v k b e z = let n : eqb b 118 ≡ true = rw z at e in eqb-true b 118 n

pub class_at : {text : List ℕ} {at class c : ℕ} → ClassAt text at class → class ≡ c → ClassAt text at c
class_at p e = rw e at p

class_is : {text : List ℕ} {at c : ℕ} → ClassAt text at c → first_fits (kind_in c) (get_or text at 0) ≡ true
class_is {text} {at} p = rw (← p.is) at (class_first (get_or text at 0))

pub digit_class : {text : List ℕ} {at : ℕ} → ClassAt text at 59 → DigitAt text at
unfolding kind_in
digit_class {text} {at} p = record { inside = p.inside; byte = first_digit 27 (get_or text at 0) (class_is p) refl }

pub v_class : {text : List ℕ} {at : ℕ} → ClassAt text at 60 → VAt text at
unfolding kind_in
v_class {text} {at} p = record { inside = p.inside; byte = first_v 28 (get_or text at 0) (class_is p) refl }

pub word_next : (text : List ℕ) (end : ℕ) {c : ℕ} → end < length text → c ≡ class_of (get_or text end 0)
    → WordNext text end (word_class c)
word_next text end {c} h e = word_is text end h (ap word_class e ∙ class_word (get_or text end 0))

-- ---- a fixed token that is there

lies_spelled : {text : List ℕ} {at k : ℕ} {bs : List ℕ} → k < 27 → at < length text → spelled_at k ≡ get_or text at 0 ∷ bs
    → Spelled text (at + 1) bs
    → (k ≡ 24 → common (spelled_at 23) (drop at text) < 2) → Lies text at k (at + suc (length bs))
lies_spelled {text} {at} {k} {bs} h i e s l =
    record {
      token = h;
      whole = rw e (spelled_common (byte i refl s));
      ends = rw e;
      longest = l;
    }

-- ---- tokens of more than one byte

pub word_within : {text : List ℕ} {at k : ℕ} {bs : List ℕ} {r : Bool} → Begun text at k bs → Are text (at + 1) bs r → r ≡ true
    → at + suc (length bs) ≤ length text
word_within b a e = let w = spelled_within (a.there e) in omega arith

-- the class of the first byte, the kind, and the bytes after it
pub data Word : ℕ → ℕ → List ℕ → Type 0 where
  skip_word : Word 32 0 (107 ∷ 105 ∷ 112 ∷ [])
  if_word : Word 33 1 (102 ∷ [])
  then_word : Word 34 2 (104 ∷ 101 ∷ 110 ∷ [])
  true_word : Word 34 25 (114 ∷ 117 ∷ 101 ∷ [])
  else_word : Word 35 3 (108 ∷ 115 ∷ 101 ∷ [])
  end_word : Word 35 4 (110 ∷ 100 ∷ [])
  while_word : Word 37 5 (104 ∷ 105 ∷ 108 ∷ 101 ∷ [])
  do_word : Word 38 6 (111 ∷ [])
  choose_word : Word 39 7 (104 ∷ 111 ∷ 111 ∷ 115 ∷ 101 ∷ [])
  not_word : Word 40 8 (111 ∷ 116 ∷ [])
  and_word : Word 41 9 (110 ∷ 100 ∷ [])
  false_word : Word 58 26 (97 ∷ 108 ∷ 115 ∷ 101 ∷ [])
  becomes_sign : Word 11 11 (61 ∷ [])
  at_most_sign : Word 23 23 (61 ∷ [])

unfoldable word_fits : ℕ → ℕ → Bool
word_fits c k = ltb k 27 && (ltb (kind_in c) 27 && not (eqb k 24))

spelling : {c k : ℕ} {bs : List ℕ} → Word c k bs → (spelled_at k ≡ spell_number (kind_in c) 1 ∷ bs) × (word_fits c k ≡ true)
unfolding word_fits spelled_at fixed spell mark_spelled relation_spelled truth_spelled spell_number spellings kind_in
spelling skip_word = (refl, refl)
spelling if_word = (refl, refl)
spelling then_word = (refl, refl)
spelling true_word = (refl, refl)
spelling else_word = (refl, refl)
spelling end_word = (refl, refl)
spelling while_word = (refl, refl)
spelling do_word = (refl, refl)
spelling choose_word = (refl, refl)
spelling not_word = (refl, refl)
spelling and_word = (refl, refl)
spelling false_word = (refl, refl)
spelling becomes_sign = (refl, refl)
spelling at_most_sign = (refl, refl)

word_fits_lem : (c k : ℕ) → word_fits c k ≡ true → (k < 27) × (kind_in c < 27) × (eqb k 24 ≡ false)
unfolding word_fits
word_fits_lem c k e =
    let t = and_true (ltb k 27) (ltb (kind_in c) 27 && not (eqb k 24)) e in
    let u = and_true (ltb (kind_in c) 27) (not (eqb k 24)) t.1 in
    (ltb-true _ _ t.0, ltb-true _ _ u.0, not-true _ u.1)

lies_word : {text : List ℕ} {at c k : ℕ} {bs : List ℕ} → ClassAt text at c → Word c k bs → Spelled text (at + 1) bs
    → Lies text at k (at + suc (length bs))
lies_word {text} {at} {c} {k} {bs} p w s =
    let g = spelling w in
    let h = word_fits_lem c k g.1 in
    let f = (first_begins (kind_in c) (get_or text at 0) (class_is p) h.1).0 in
    lies_spelled h.0 p.inside (g.0 ∙ ap (λ (b : ℕ). b ∷ bs) f) s (λ e. absurd (clash (eqb k 24) (eq-eqb k 24 e) h.2))

pub begun : {text : List ℕ} {at c k : ℕ} {bs : List ℕ} → ClassAt text at c → Word c k bs → Begun text at k bs
begun p w = record { inside = p.inside; lies = lies_word p w }

-- `<` where no `=` follows
less_spelled : (spelled_at 24 ≡ 60 ∷ []) × (spelled_at 23 ≡ 60 ∷ 61 ∷ [])
unfolding spelled_at fixed spell relation_spelled
less_spelled = (refl, refl)

less_byte : {text : List ℕ} {at : ℕ} → ClassAt text at 23 → 60 ≡ get_or text at 0
unfolding kind_in spell_number spellings
less_byte {text} {at} p = (first_begins 23 (get_or text at 0) (class_is p) (lit< tt)).0

lies_less : {text : List ℕ} {at : ℕ} {r : Bool} → ClassAt text at 23 → Next text (at + 1) 61 r → r ≡ false
    → Lies text at 24 (at + 1)
lies_less {text} {at} p n f =
    let i = p.inside in
    let e = less_byte p in
    let o : common (61 ∷ []) (drop (suc at) text) ≡ 0 = rw (add-one at) at (other_common n f) in
    let c = common_more (61 ∷ []) (drop (suc at) text) 60 (get_or text at 0) e in
    let t : common (spelled_at 23) (drop at text) ≡ 1 = rw (less_spelled.1, drop-cons text at 0 i) (c ∙ ap suc o) in
    lies_spelled (lit< tt) i (less_spelled.0 ∙ ap (λ (b : ℕ). b ∷ []) e) (nothing (omega arith)) (λ q. omega arith)

-- ---- tokens of one byte

single : (l : List ℕ) → length l ≡ 1 → l ≡ get_or l 0 0 ∷ []
single [] h = absurd (omega arith)
single (x ∷ []) h = refl
single (x ∷ y ∷ l) h = absurd (omega arith)

alone : (c : ℕ) → alone_fits c ≡ true → 64 ≤ c → (word_class c ≡ false) × (c - 64 < 27) × (spell_number (c - 64) 0 ≡ 1)
unfolding alone_fits
alone c e h =
    let t = and_true _ _ (rw (le-ltb c 64 h) at e) in
    let u = and_true _ _ t.1 in
    (not-true _ t.0, ltb-true _ _ u.0, eqb-true _ _ u.1)

kind_alone : (c : ℕ) → 64 ≤ c → kind_in c ≡ c - 64
unfolding kind_in
kind_alone c h = rw (le-ltb c 64 h, le-ltb c 32 (omega arith))

lies_alone : {text : List ℕ} {at c : ℕ} → ClassAt text at c → 64 ≤ c → Lies text at (c - 64) (at + 1)
lies_alone {text} {at} {c} p h =
    let i = p.inside in
    let a = alone c (rw (← p.is) at (class_alone (get_or text at 0))) h in
    let k = a.1 in
    let n = a.2 in
    let f = first_begins (c - 64) (get_or text at 0) (rw (kind_alone c h) at (class_is p)) k in
    let s = spelled_length (c - 64) k in
    let b : get_or (spelled_at (c - 64)) 0 0 ≡ spell_number (c - 64) 1 = spelled_byte (c - 64) k 0 (omega arith) in
    lies_spelled k i (single (spelled_at (c - 64)) (omega arith) ∙ ap (λ (b : ℕ). b ∷ []) (b ∙ f.0)) (nothing (omega arith))
    (λ q. absurd (f.1 q))

-- ---- any token

held_fixed : {text : List ℕ} {at k place kind value end : ℕ} → Lies text at k place
    → (kind ≡ k) × (value ≡ 0) × (end ≡ place) → Held text at kind value end
held_fixed {text} {at} {k} l e =
    let i = entry_at k l.token in
    let a = e.0 in
    let f = e.2 in
    record {
      token = (get_or fixed k (mark skip), entry_kind i ∙ sym a, fixed_carries (entry_fixed i) ∙ sym e.1, rw (a, f) (lies_at l));
    }

pub held_word : {text : List ℕ} {at k : ℕ} {bs : List ℕ} {r : Bool} → Begun text at k bs → Are text (at + 1) bs r → r ≡ true
    → Held text at k 0 (at + suc (length bs))
held_word b a e = held_fixed (b.lies (a.there e)) (refl, refl, refl)

pub held_as : {text : List ℕ} {at kind k value end : ℕ} → Held text at kind value end → kind ≡ k → Held text at k value end
held_as u e = rw e at u

word_number : is_word_kind 27 ≡ true
unfolding is_word_kind
word_number = refl

word_variable : is_word_kind 28 ≡ true
unfolding is_word_kind
word_variable = refl

pub held_number : {text : List ℕ} {at end n : ℕ} → DigitsRead 2147483647 text at end n → Held text at 27 n end
unfolding kind_of carried
held_number {text} {at} {end} {n} d =
    record { token = (number n, refl, refl, λ sh m w. number_at text at sh d m (w word_number)) }

pub held_variable : {text : List ℕ} {at end n : ℕ} → VAt text at → DigitsRead 31 text (at + 1) end n → Held text at 28 n end
unfolding kind_of carried
held_variable {text} {at} {end} {n} v d =
    record { token = (variable n, refl, refl, λ sh m w. variable_at text at sh v.inside v.byte d m (w word_variable)) }

-- its first byte is no letter or digit, so it is no word
lies_sign : {text : List ℕ} {at k end : ℕ} → Lies text at k end → in_word (get_or text at 0) ≡ false → is_word_kind k ≡ false
lies_sign {text} {at} {k} {end} y n =
    let h = y.token in
    let c = y.whole in
    let z = spelled_some k h in
    let s = spelled_length k h in
    let w = whole_there (spelled_at k) (drop at text) (omega arith) in
    let q : at + 0 ≡ at = omega arith in
    let f : get_or (spelled_at k) 0 0 ≡ get_or text at 0 =
    ap (λ (l : List ℕ). get_or l 0 0) (sym w) ∙ get_or-take (length (spelled_at k)) (drop at text) 0 0 z ∙ get_or-drop at text 0 0
    ∙ ap (λ (i : ℕ). get_or text i 0) q in
    let b : get_or (spelled_at k) 0 0 ≡ spell_number k 1 = spelled_byte k h 0 (omega arith) in
    agreed _ _ (words_fit k h) ∙ ap in_word (sym b ∙ f) ∙ n

quick_fixed : {text : List ℕ} {at class k place kind value end : ℕ} → ClassAt text at class → word_class class ≡ false
    → Lies text at k place → (kind ≡ k) × (value ≡ 0) × (end ≡ place) → Quick text at kind value end
quick_fixed {text} {at} {class} {k} {kind = kind} p h l e =
    let n : in_word (get_or text at 0) ≡ false = sym (class_word (get_or text at 0)) ∙ ap word_class (sym p.is) ∙ h in
    let o : is_word_kind kind ≡ false = ap is_word_kind e.0 ∙ lies_sign l n in
    let u = held_fixed l e in
    let t = u.token in
    record { token = (t.0, t.1, t.2, λ sh m. t.3 sh m (λ w. absurd (clash (is_word_kind kind) w o))) }

module _ {text : List ℕ} {at kind value end : ℕ} where
  pub quick_alone : {c : ℕ} → ClassAt text at c → 64 ≤ c → (kind ≡ c - 64) × (value ≡ 0) × (end ≡ at + 1)
      → Quick text at kind value end
  quick_alone {c} p h e =
      quick_fixed p (alone c (rw (← p.is) at (class_alone (get_or text at 0))) h).0 (lies_alone p h) e

  pub quick_becomes : ClassAt text at 11 → Spelled text (at + 1) (61 ∷ []) → (kind ≡ 11) × (value ≡ 0) × (end ≡ at + 2)
      → Quick text at kind value end
  unfolding word_class
  quick_becomes p s e = quick_fixed p refl (lies_word p becomes_sign s) e

  pub quick_at_most : ClassAt text at 23 → Spelled text (at + 1) (61 ∷ []) → (kind ≡ 23) × (value ≡ 0) × (end ≡ at + 2)
      → Quick text at kind value end
  unfolding word_class
  quick_at_most p s e = quick_fixed p refl (lies_word p at_most_sign s) e

  pub quick_less : {r : Bool} → ClassAt text at 23 → Next text (at + 1) 61 r → r ≡ false
      → (kind ≡ 24) × (value ≡ 0) × (end ≡ at + 1)
      → Quick text at kind value end
  unfolding word_class
  quick_less p n f e = quick_fixed p refl (lies_less p n f) e

pub quick_parted : {text : List ℕ} {at kind value end : ℕ} {w : Bool} → Held text at kind value end → WordNext text end w
    → w ≡ false → Quick text at kind value end
quick_parted u w e = let t = u.token in record { token = (t.0, t.1, t.2, λ sh m. t.3 sh m (λ i. w.stops e)) }
