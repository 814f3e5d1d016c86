-- A token in bytes: its spelling is taken byte by byte, no further byte goes on with it, and it is closed as the token that it is.
use mathlib.Core.Path.{◌≡◌, refl, sym, ap, ◌∙◌, subst}
use mathlib.Core.Bool.{Bool, true, false, ◌&&◌}
use mathlib.Core.List.{List, [], ◌∷◌, ◌++◌, append_assoc, append-nil}
use mathlib.Core.Option.{none, some}
use Prim.Native.Nat.{ℕ, zero, suc, ◌+◌, ◌-◌, ◌*◌, ◌/◌, ◌%◌, ◌<◌, ◌≤◌}
use native.Mathlib.Omega.{arith}
use lib.Dec.{eqb, ltb}
use borrow.Author.Tests.{ltb-true, ltb-false, leb-true}
use Rattle.rules.specs.Expression.{less}
use Rattle.rules.proofs.ListLaws.{true_and}
use Rattle.grammar.specs.Token.{Token, number, variable, sign, relation, truth, mark, skip}
use Rattle.grammar.specs.Spelling.{decimal_in, decimal, spell, last_variable}
use Rattle.grammar.specs.Spelling.{is_digit, in_word, is_word, in_range, greatest}
use Rattle.grammar.specs.machine.Reader.{State, step, next}
use Rattle.grammar.specs.machine.Bytes.{Pending, letters, digits, letter_v, index, Spot, spot, fixed, begins}
use Rattle.grammar.specs.machine.Bytes.{longer, allows, some_begins, begin, grow, shut_token, shut, go_on}
use Rattle.grammar.specs.machine.Bytes.{byte_step}
use Rattle.grammar.proofs.bytes.Decimal.{small, big}
use Rattle.grammar.proofs.bytes.Fixed.{Fixed, a_mark, a_sign, a_relation, a_truth, split_begins, any_at}
use Rattle.grammar.proofs.bytes.Fixed.{placed, found, begun, goes_no_further}
use Rattle.grammar.proofs.bytes.Pendings.{digit, is_longer, not_longer, not_digit}
use Rattle.grammar.proofs.bytes.ByteRuns.{TakesByte, Leads, here, on, pick_true, pick_false}
use Rattle.grammar.proofs.tokens.Followers.{number_allowed, variable_allowed}

-- ---- tokens whole

unfoldable pub pending_of : Token → Pending
pending_of (number k) = digits k
pending_of (variable x) = index x
pending_of (sign o) = letters (spell (sign o))
pending_of (relation o) = letters (spell (relation o))
pending_of (truth b) = letters (spell (truth b))
pending_of (mark m) = letters (spell (mark m))

pub fixed_pending : {t : Token} → Fixed t → pending_of t ≡ letters (spell t)
unfolding pending_of
fixed_pending (a_mark m) = refl
fixed_pending (a_sign o) = refl
fixed_pending (a_relation o) = refl
fixed_pending (a_truth b) = refl

pub data Kind : Token → Type 0 where
  a_number : (k : ℕ) → Kind (number k)
  a_variable : (x : ℕ) → Kind (variable x)
  a_fixed : {t : Token} → Fixed t → Kind t

pub kind : (t : Token) → Kind t
kind (number k) = a_number k
kind (variable x) = a_variable x
kind (sign o) = a_fixed (a_sign o)
kind (relation o) = a_fixed (a_relation o)
kind (truth b) = a_fixed (a_truth b)
kind (mark m) = a_fixed (a_mark m)

pub both_false : (a b : Bool) → (a ≡ true → b ≡ false) → (a && b) ≡ false
both_false true b h = h refl
both_false false b h = refl

module _ {limit : ℕ} where
  pub goes : {S : State limit} {P Q : Pending} {b : ℕ} → grow S P b ≡ some Q → TakesByte (spot S P) b (spot S Q)
  unfolding byte_step go_on
  goes e = record { is = rw e }

  -- the digits of n, read from P on, where P takes a first digit and then `made` takes more
  module _ (S : State limit) (P : Pending) (made : ℕ → Pending) (most : ℕ)
      (first : (d : ℕ) → d < 10 → TakesByte (spot S P) (48 + d) (spot S (made d)))
      (more : (n d : ℕ) → 1 ≤ n → d < 10 → 10 * n + d ≤ most → TakesByte (spot S (made n)) (48 + d) (spot S (made (10 * n + d)))) where
    decimal_leads : (f n : ℕ) → n ≤ f → n ≤ most → (bs cs : List ℕ) {C : Spot limit} → Leads (spot S (made n)) bs C cs
        → Leads (spot S P) (decimal_in f n ++ bs) C cs
    decimal_leads zero n h k bs cs m = rw (small zero n (omega arith)) (on (first n (omega arith)) m)
    decimal_leads (suc f) n h k bs cs {C} m =
        split (ltb n 10) refl (λ (l : 10 ≤ n) ds. decimal_leads f (n / 10) (omega arith) (omega arith) ds cs)
      where
        split : (b : Bool) → ltb n 10 ≡ b
            → (10 ≤ n → (ds : List ℕ) → Leads (spot S (made (n / 10))) ds C cs → Leads (spot S P) (decimal_in f (n / 10) ++ ds) C cs)
            → Leads (spot S P) (decimal_in (suc f) n ++ bs) C cs
        split true e low = let l : n < 10 = ltb-true n 10 e in rw (small (suc f) n l) (on (first n l) m)
        split false e low =
            let l : 10 ≤ n = ltb-false n 10 e in
            let whole : 10 * (n / 10) + n % 10 ≡ n = omega arith in
            let last : TakesByte (spot S (made (n / 10))) (48 + n % 10) (spot S (made n)) =
            subst (λ (x : ℕ). TakesByte (spot S (made (n / 10))) (48 + n % 10) (spot S (made x))) whole
            (more (n / 10) (n % 10) (omega arith) (omega arith) (omega arith)) in
            rw (big f n l, append_assoc) (low l ((48 + n % 10) ∷ bs) (on last m))

  -- ---- a token is read whole

  begins_number : (S : State limit) → allows S (number 0) ≡ true → (d : ℕ) → d < 10
      → TakesByte (spot S Pending.nothing) (48 + d) (spot S (digits d))
  unfolding grow begin
  begins_number S a d h =
      let back : 48 + d - 48 ≡ d = omega arith in
      goes (rw (digit d h, begin) (pick_true (allows S (number 0)) (digits (48 + d - 48)) a ∙ ap (λ (x : ℕ). some (digits x)) back))

  more_number : (S : State limit) (n d : ℕ) → 1 ≤ n → d < 10 → 10 * n + d ≤ greatest
      → TakesByte (spot S (digits n)) (48 + d) (spot S (digits (10 * n + d)))
  unfolding grow
  more_number S n d h k l =
      let back : 48 + d - 48 ≡ d = omega arith in
      goes (pick_true (longer greatest n (48 + d)) (digits (10 * n + (48 + d - 48))) (is_longer greatest n d h k l)
      ∙ ap (λ (x : ℕ). some (digits (10 * n + x))) back)

  pub begins_index : (S : State limit) (d : ℕ) → d < 10 → TakesByte (spot S letter_v) (48 + d) (spot S (index d))
  unfolding grow
  begins_index S d h =
      let back : 48 + d - 48 ≡ d = omega arith in
      goes (pick_true (is_digit (48 + d)) (index (48 + d - 48)) (digit d h) ∙ ap (λ (x : ℕ). some (index x)) back)

  more_index : (S : State limit) (n d : ℕ) → 1 ≤ n → d < 10 → 10 * n + d ≤ last_variable
      → TakesByte (spot S (index n)) (48 + d) (spot S (index (10 * n + d)))
  unfolding grow
  more_index S n d h k l =
      let back : 48 + d - 48 ≡ d = omega arith in
      goes (pick_true (longer last_variable n (48 + d)) (index (10 * n + (48 + d - 48))) (is_longer last_variable n d h k l)
      ∙ ap (λ (x : ℕ). some (index (10 * n + x))) back)

  begins_v : (S : State limit) → allows S (variable 0) ≡ true → TakesByte (spot S Pending.nothing) 118 (spot S letter_v)
  unfolding grow begin is_digit
  begins_v S a = goes (pick_true (allows S (variable 0)) letter_v a)

  some_begins_lem : (S : State limit) {t : Token}
      → Fixed t → allows S t ≡ true → (p q : List ℕ) → spell t ≡ p ++ q → some_begins S p ≡ true
  unfolding some_begins
  some_begins_lem S {t} f a p q e =
      let k = placed f in
      let test : Token → Bool = λ u. begins p (spell u) && allows S u in
      let here : test t ≡ true = true_and (begins p (spell t)) (allows S t) (rw e (split_begins p q)) a in
      any_at test fixed (mark skip) k.0 k.1 (let i = k.2 in rw i here)

  pub letters_lead : (S : State limit) {t : Token}
      → Fixed t → allows S t ≡ true → (p q : List ℕ) → spell t ≡ p ++ q → (bs : List ℕ)
      → Leads (spot S (letters p)) (q ++ bs) (spot S (letters (p ++ q))) bs
  unfolding grow
  letters_lead S f a p [] e bs = subst (λ (x : List ℕ). Leads (spot S (letters p)) bs (spot S (letters x)) bs) (sym (append-nil p)) here
  letters_lead S f a p (c ∷ q) e bs =
      let e₂ : spell _ ≡ (p ++ (c ∷ [])) ++ q = e ∙ sym (append_assoc p (c ∷ []) q) in
      on (goes (pick_true (some_begins S (p ++ (c ∷ []))) (letters (p ++ (c ∷ []))) (some_begins_lem S f a (p ++ (c ∷ [])) q e₂)))
      (subst (λ (x : List ℕ). Leads (spot S (letters (p ++ (c ∷ [])))) (q ++ bs) (spot S (letters x)) bs) (append_assoc p (c ∷ []) q)
      (letters_lead S f a (p ++ (c ∷ [])) q e₂ bs))

  fixed_leads : (S : State limit) {t : Token} → Fixed t → allows S t ≡ true → (bs : List ℕ)
      → Leads (spot S Pending.nothing) (spell t ++ bs) (spot S (letters (spell t))) bs
  unfolding grow begin
  fixed_leads S {t} f a bs =
      let k = begun f in
      let b = k.first in
      let q = k.others in
      let e : spell t ≡ b ∷ q = k.spelled in
      let s : begin S b ≡ some (letters (b ∷ [])) =
      rw (k.no_digit, k.no_v, begin) (pick_true (some_begins S (b ∷ [])) (letters (b ∷ [])) (some_begins_lem S f a (b ∷ []) q e)) in
      rw e (on (goes s) (letters_lead S f a (b ∷ []) q e bs))

  pub token_leads : (S : State limit) {t : Token} → Kind t → in_range t ≡ true → allows S t ≡ true → (bs : List ℕ)
      → Leads (spot S Pending.nothing) (spell t ++ bs) (spot S (pending_of t)) bs
  unfolding pending_of spell decimal in_range
  token_leads S (a_number k) i a bs =
      decimal_leads S Pending.nothing digits greatest (begins_number S (number_allowed S 0 k ∙ a)) (more_number S)
      k k (omega arith) (leb-true k greatest i) bs bs here
  token_leads S (a_variable x) i a bs =
      on (begins_v S (variable_allowed S 0 x ∙ a))
      (decimal_leads S letter_v index last_variable (begins_index S) (more_index S) x x (omega arith) (leb-true x last_variable i) bs bs here)
  token_leads S (a_fixed f) i a bs = rw (fixed_pending f) (fixed_leads S f a bs)

  -- ---- and closed by what follows

  shut_token_lem : (S : State limit) (next : Bool) (t : Token)
      → (is_word t && next) ≡ false → shut_token S next (some t) ≡ step S t
  unfolding shut_token
  shut_token_lem S next t e = rw (e, shut_token)

  pub shuts : (S : State limit) (next : Bool) {t : Token}
      → Kind t → (is_word t && next) ≡ false → shut S next (pending_of t) ≡ step S t
  unfolding shut pending_of
  shuts S next (a_number k) w = shut_token_lem S next (number k) w
  shuts S next (a_variable x) w = shut_token_lem S next (variable x) w
  shuts S next (a_fixed {t = t} f) w = rw (fixed_pending f) (rw (found f) (shut_token_lem S next t w))

  -- the byte after a token does not go on with it
  pub stays : (S : State limit) {t : Token}
      → Kind t → (b : ℕ) → (is_word t ≡ true → in_word b ≡ false) → (t ≡ relation less → eqb b 61 ≡ false)
      → grow S (pending_of t) b ≡ none
  unfolding grow pending_of is_word
  stays S (a_number k) b w l = pick_false (longer greatest k b) (digits (10 * k + (b - 48))) (not_longer greatest k b (not_digit b (w refl)))
  stays S (a_variable x) b w l = pick_false (longer last_variable x b) (index (10 * x + (b - 48))) (not_longer last_variable x b (not_digit b (w refl)))
  stays S (a_fixed {t = t} f) b w l =
      rw (fixed_pending f) (pick_false (some_begins S (spell t ++ (b ∷ []))) (letters (spell t ++ (b ∷ []))) (goes_no_further f S b l))
