-- What is pending of a token: the bytes that it stands for, and the token that it is once closed.
use mathlib.Core.Path.{◌≡◌, refl, ap, ◌∙◌, subst}
use mathlib.Core.Bool.{Bool, true, false, ◌&&◌, ◌||◌}
use mathlib.Core.List.{List, [], ◌∷◌, ◌++◌}
use mathlib.Core.Option.{Option, none, some}
use Prim.Native.Nat.{ℕ, ◌+◌, ◌-◌, ◌*◌, ◌<◌, ◌≤◌}
use native.Mathlib.Omega.{arith}
use lib.Dec.{eqb, ltb, leb}
use borrow.Author.Tests.{eqb-true, leb-true, ltb-true, lt-ltb, le-leb}
use Rattle.rules.proofs.ListLaws.{and_true, true_and}
use Rattle.grammar.specs.Token.{Token, number, variable}
use Rattle.grammar.specs.Spelling.{decimal, spell, is_digit, is_letter, in_word, is_word, in_range, greatest, last_variable}
use Rattle.grammar.specs.machine.Reader.{State, step}
use Rattle.grammar.specs.machine.Bytes.{Pending, letters, digits, letter_v, index, fixed, begins, find, pick}
use Rattle.grammar.specs.machine.Bytes.{longer, allows, some_begins, begin, grow, shut_token, shut}
use Rattle.grammar.proofs.tokens.Choices.{nothing}
use Rattle.grammar.proofs.bytes.Decimal.{one_digit, digit_more}
use Rattle.grammar.proofs.bytes.Fixed.{begins_both, all_fixed, find_fixed, fixed_in_range}
use Rattle.grammar.proofs.bytes.ByteRuns.{pick_some}

unfoldable pub spelled : Pending → List ℕ
spelled Pending.nothing = []
spelled (letters p) = p
spelled (digits n) = decimal n
spelled letter_v = 118 ∷ []
spelled (index n) = 118 ∷ decimal n

unfoldable pub proper : Pending → Bool
proper Pending.nothing = true
proper (letters p) = true
proper (digits n) = leb n greatest
proper letter_v = true
proper (index n) = leb n last_variable

-- ---- a digit, and one more digit, both ways

pub digit_is : (b : ℕ) → is_digit b ≡ true → (48 ≤ b) × (b ≤ 57)
unfolding is_digit
digit_is b e = let k = and_true (leb 48 b) (leb b 57) e in (leb-true 48 b k.0, leb-true b 57 k.1)

pub longer_is : (most n b : ℕ) → longer most n b ≡ true → (is_digit b ≡ true) × (1 ≤ n) × (10 * n + (b - 48) ≤ most)
unfolding longer
longer_is most n b e =
    let k = and_true (is_digit b && ltb 0 n) (leb (10 * n + (b - 48)) most) e in
    let l = and_true (is_digit b) (ltb 0 n) k.0 in
    (l.0, ltb-true 0 n l.1, leb-true (10 * n + (b - 48)) most k.1)

pub digit : (d : ℕ) → d < 10 → is_digit (48 + d) ≡ true
unfolding is_digit
digit d h = true_and _ _ (le-leb 48 (48 + d) (omega arith)) (le-leb (48 + d) 57 (omega arith))

pub is_longer : (most n d : ℕ) → 1 ≤ n → d < 10 → 10 * n + d ≤ most → longer most n (48 + d) ≡ true
unfolding longer
is_longer most n d h k l =
    true_and _ _ (true_and _ _ (digit d k) (lt-ltb 0 n h)) (le-leb (10 * n + (48 + d - 48)) most (omega arith))

pub not_longer : (most n b : ℕ) → is_digit b ≡ false → longer most n b ≡ false
unfolding longer
not_longer most n b h = rw h

pub not_digit : (b : ℕ) → in_word b ≡ false → is_digit b ≡ false
unfolding in_word
not_digit b e = first (is_digit b) (is_letter b) e
  where
    first : (a c : Bool) → (a || c) ≡ false → a ≡ false
    first true c e = e
    first false c e = refl

-- ---- what is pending, one byte further

-- P, gone on by the byte b, is Q
pub record Grew (P : Pending) (b : ℕ) (Q : Pending) : Type 0 where
  pub bytes : spelled Q ≡ spelled P ++ (b ∷ [])
  pub keeps : proper Q ≡ true

into : {P : Pending} {b : ℕ} {Q R : Pending} → Q ≡ R → Grew P b Q → Grew P b R
into {P} {b} e g = subst (λ (X : Pending). Grew P b X) e g

digit_decimal : (b : ℕ) → is_digit b ≡ true → decimal (b - 48) ≡ b ∷ []
digit_decimal b e =
    let k = digit_is b e in
    one_digit (b - 48) (omega arith) ∙ ap (λ (x : ℕ). x ∷ []) (omega arith)

decimal_longer : (n b : ℕ) → is_digit b ≡ true → 1 ≤ n → decimal (10 * n + (b - 48)) ≡ decimal n ++ (b ∷ [])
decimal_longer n b e h =
    let k = digit_is b e in
    digit_more n (b - 48) h (omega arith) ∙ ap (λ (x : ℕ). decimal n ++ (x ∷ [])) (omega arith)

module _ {limit : ℕ} (S : State limit) where
  begin_grew : (b : ℕ) {Q : Pending} → begin S b ≡ some Q → Grew Pending.nothing b Q
  unfolding begin spelled proper
  begin_grew b {Q} e = split (is_digit b) refl (eqb b 118) refl e
    where
      split : (c : Bool) → is_digit b ≡ c → (d : Bool) → eqb b 118 ≡ d
          → ◌≡◌ {A = Option Pending} (elim c [
            | true ↦ pick (allows S (number 0)) (digits (b - 48))
            | false ↦ elim d [ true ↦ pick (allows S (variable 0)) letter_v | false ↦ pick (some_begins S (b ∷ [])) (letters (b ∷ [])) ]
          ]) (some Q) → Grew Pending.nothing b Q
      split true h d i e =
          let k = digit_is b h in
          into (pick_some (allows S (number 0)) e).1 (record { bytes = digit_decimal b h; keeps = le-leb (b - 48) greatest (omega arith) })
      split false h true i e =
          let q : b ≡ 118 = eqb-true b 118 i in
          into (pick_some (allows S (variable 0)) e).1 (record { bytes = rw q; keeps = refl })
      split false h false i e = into (pick_some (some_begins S (b ∷ [])) e).1 (record { bytes = refl; keeps = refl })

  pub grow_grew : (P : Pending) (b : ℕ) {Q : Pending} → proper P ≡ true → grow S P b ≡ some Q → Grew P b Q
  unfolding grow spelled proper
  grow_grew Pending.nothing b p e = begin_grew b e
  grow_grew (letters p) b h e = into (pick_some (some_begins S (p ++ (b ∷ []))) e).1 (record { bytes = refl; keeps = refl })
  grow_grew (digits n) b h e =
      let k = pick_some (longer greatest n b) e in
      let l = longer_is greatest n b k.0 in
      into k.1 (record { bytes = decimal_longer n b l.0 l.1; keeps = le-leb (10 * n + (b - 48)) greatest l.2 })
  grow_grew letter_v b h e =
      let k = pick_some (is_digit b) e in
      let d = digit_is b k.0 in
      into k.1 (record {
        bytes = ap (λ (p : List ℕ). 118 ∷ p) (digit_decimal b k.0);
        keeps = le-leb (b - 48) last_variable (omega arith);
      })
  grow_grew (index n) b h e =
      let k = pick_some (longer last_variable n b) e in
      let l = longer_is last_variable n b k.0 in
      into k.1 (record {
        bytes = ap (λ (p : List ℕ). 118 ∷ p) (decimal_longer n b l.0 l.1);
        keeps = le-leb (10 * n + (b - 48)) last_variable l.2;
      })

  -- a pending token that is closed: there was none, or it was t
  pub data Shut (goes : Bool) (P : Pending) (R : State limit) : Type 0 where
    was_nothing : P ≡ Pending.nothing → S ≡ R → Shut goes P R
    was_token : (t : Token)
        → spell t ≡ spelled P → in_range t ≡ true → step S t ≡ some R → (is_word t && goes) ≡ false → Shut goes P R

  shut_token_is : (goes : Bool) (P : Pending) {R : State limit} (o : Option Token) → shut_token S goes o ≡ some R
      → ((t : Token) → o ≡ some t → (spell t ≡ spelled P) × (in_range t ≡ true)) → Shut goes P R
  unfolding shut_token
  shut_token_is goes P none e f = absurd (nothing e)
  shut_token_is goes P {R} (some t) e f = split (is_word t && goes) refl e
    where
      split : (c : Bool) → (is_word t && goes) ≡ c → ◌≡◌ {A = Option (State limit)} (elim c [ true ↦ none | false ↦ step S t ]) (some R) → Shut goes P R
      split true h e = absurd (nothing e)
      split false h e = was_token t (f t refl).0 (f t refl).1 e h

  pub shut_is : (goes : Bool) (P : Pending) {R : State limit} → proper P ≡ true → shut S goes P ≡ some R → Shut goes P R
  unfolding shut spelled proper spell in_range
  shut_is goes Pending.nothing h e = was_nothing refl (cc)
  shut_is goes (letters p) h e =
      shut_token_is goes (letters p) (find (λ t. begins p (spell t) && begins (spell t) p) fixed) e
      (λ t q. let f = find_fixed (λ t. begins p (spell t) && begins (spell t) p) all_fixed q in
      let b = and_true (begins p (spell t)) (begins (spell t) p) f.1 in
      (begins_both (spell t) p b.1 b.0, fixed_in_range f.0))
  shut_is goes (digits n) h e = shut_token_is goes (digits n) (some (number n)) e (λ t q. let i : number n ≡ t = cc in rw (← i) (refl, h))
  shut_is goes letter_v h e = absurd (nothing e)
  shut_is goes (index n) h e = shut_token_is goes (index n) (some (variable n)) e (λ t q. let i : variable n ≡ t = cc in rw (← i) (refl, h))
