-- Every spot that the bytes can lead to can still be finished: the pending token, and then the tokens that finish its state, each followed by a
-- blank.
use mathlib.Core.Path.{◌≡◌, refl, ap, ◌∙◌, subst}
use mathlib.Core.Bool.{Bool, true, false, ◌&&◌}
use mathlib.Core.List.{List, [], ◌∷◌, ◌++◌}
use mathlib.Core.Option.{Option, some}
use mathlib.Core.Logic.{◌⊎◌, inl, inr}
use Prim.Native.Nat.{ℕ, ◌-◌}
use native.Mathlib.Omega.{arith}
use lib.Dec.{eqb}
use Rattle.rules.proofs.ListLaws.{and_true}
use Rattle.grammar.specs.Rule.{Rule}
use Rattle.grammar.specs.Token.{Token, number, variable}
use Rattle.grammar.specs.Spelling.{spell, in_range, is_digit, in_word, begins_in_word, is_blank, is_letter, greatest}
use Rattle.grammar.specs.Spelling.{last_variable}
use Rattle.grammar.specs.Layout.{Laid, done, blank, token}
use Rattle.grammar.specs.machine.Reader.{Phrase, State, Open, whole, follow, then_branch, else_branch}
use Rattle.grammar.specs.machine.Reader.{loop_body, in_row, if_test, while_test, squared, choose_test}
use Rattle.grammar.specs.machine.Reader.{first_part, next_part, plain, negated, assigning, left_side}
use Rattle.grammar.specs.machine.Reader.{right_side, bracketed, choose_first, choose_second, first_term}
use Rattle.grammar.specs.machine.Reader.{next_term, first_factor, next_factor, want_statement, want_becomes}
use Rattle.grammar.specs.machine.Reader.{want_part, want_test, want_factor, want_open, have, step}
use Rattle.grammar.specs.machine.Bytes.{Pending, letters, digits, letter_v, index, Spot, spot, begins, pick}
use Rattle.grammar.specs.machine.Bytes.{longer, allows, some_begins, begin, grow, shut, fresh, byte_step}
use Rattle.grammar.proofs.tokens.Finish.{closing, finish, finishes}
use Rattle.grammar.proofs.bytes.Fixed.{begins_split, any_fixed, all_fixed}
use Rattle.grammar.proofs.bytes.InRange.{AllIn, none_in, more_in}
use Rattle.grammar.proofs.bytes.ByteRuns.{MeansBytes, taken_byte, leads_means, pick_some, fresh_some, step_some}
use Rattle.grammar.proofs.tokens.Followers.{number_allowed, variable_allowed, taking_some}
use Rattle.grammar.proofs.bytes.TokenBytes.{pending_of, fixed_pending, kind, letters_lead, begins_index}
use Rattle.grammar.proofs.bytes.ByteComplete.{closes_read, laid_reads}

-- ---- tokens as text

unfoldable render : List Token → List ℕ
render [] = []
render (t ∷ ts) = spell t ++ (32 ∷ render ts)

laid_render : {ts : List Token} → AllIn ts → Laid (render ts) ts
unfolding render is_blank begins_in_word in_word is_digit is_letter
laid_render none_in = done
laid_render (more_in i a) = token i (λ h. refl) (blank refl (laid_render a))

module _ {limit : ℕ} where
  closing_in : {h : Phrase} {n : ℕ} (K : Open limit h n) → AllIn (closing K)
  unfolding closing in_range
  closing_in whole = none_in
  closing_in (follow s K) = closing_in K
  closing_in (then_branch b K) = more_in refl (more_in refl (more_in refl (closing_in K)))
  closing_in (else_branch b p K) = more_in refl (closing_in K)
  closing_in (loop_body b K) = more_in refl (closing_in K)
  closing_in (in_row K) = closing_in K
  closing_in (if_test K) = more_in refl (more_in refl (more_in refl (more_in refl (more_in refl (closing_in K)))))
  closing_in (while_test K) = more_in refl (more_in refl (more_in refl (closing_in K)))
  closing_in (squared K) = more_in refl (closing_in K)
  closing_in (choose_test K) = more_in refl (more_in refl (more_in refl (more_in refl (more_in refl (closing_in K)))))
  closing_in (first_part K) = closing_in K
  closing_in (next_part b K) = closing_in K
  closing_in (plain K) = closing_in K
  closing_in (negated K) = closing_in K
  closing_in (assigning x K) = closing_in K
  closing_in (left_side K) = more_in refl (more_in refl (closing_in K))
  closing_in (right_side o a K) = closing_in K
  closing_in (bracketed K) = more_in refl (closing_in K)
  closing_in (choose_first b K) = more_in refl (more_in refl (more_in refl (closing_in K)))
  closing_in (choose_second b x K) = more_in refl (closing_in K)
  closing_in (first_term K) = closing_in K
  closing_in (next_term o a K) = closing_in K
  closing_in (first_factor K) = closing_in K
  closing_in (next_factor o a K) = closing_in K

  finish_in : (S : State limit) → AllIn (finish S)
  unfolding finish in_range
  finish_in (want_statement n K) = more_in refl (closing_in K)
  finish_in (want_becomes n x K) = more_in refl (more_in refl (closing_in K))
  finish_in (want_part n K) = more_in refl (closing_in K)
  finish_in (want_test n K) = more_in refl (closing_in K)
  finish_in (want_factor n K) = more_in refl (closing_in K)
  finish_in (want_open n K) = more_in refl (more_in refl (more_in refl (more_in refl (more_in refl (more_in refl (more_in refl (closing_in K)))))))
  finish_in (have h n K x) = closing_in K

  -- ---- what is pending begins a token that is allowed

  pub data Good (S : State limit) : Pending → Type 0 where
    good_nothing : Good S Pending.nothing
    good_letters : {p : List ℕ} → some_begins S p ≡ true → Good S (letters p)
    good_digits : {n : ℕ} → allows S (number 0) ≡ true → Good S (digits n)
    good_v : allows S (variable 0) ≡ true → Good S letter_v
    good_index : {n : ℕ} → allows S (variable 0) ≡ true → Good S (index n)

  good_as : {S : State limit} {P Q : Pending} → P ≡ Q → Good S P → Good S Q
  good_as {S} e g = subst (λ (X : Pending). Good S X) e g

  begin_good : (S : State limit) (b : ℕ) {Q : Pending} → begin S b ≡ some Q → Good S Q
  unfolding begin
  begin_good S b {Q} e = split (is_digit b) (eqb b 118) e
    where
      split : (c d : Bool)
          → ◌≡◌ {A = Option Pending} (elim c [
            | true ↦ pick (allows S (number 0)) (digits (b - 48))
            | false ↦ elim d [ true ↦ pick (allows S (variable 0)) letter_v | false ↦ pick (some_begins S (b ∷ [])) (letters (b ∷ [])) ]
          ]) (some Q) → Good S Q
      split true d e = let k = pick_some (allows S (number 0)) e in good_as k.1 (good_digits k.0)
      split false true e = let k = pick_some (allows S (variable 0)) e in good_as k.1 (good_v k.0)
      split false false e = let k = pick_some (some_begins S (b ∷ [])) e in good_as k.1 (good_letters k.0)

  grow_good : (S : State limit) {P : Pending} (b : ℕ) {Q : Pending} → Good S P → grow S P b ≡ some Q → Good S Q
  unfolding grow
  grow_good S b good_nothing e = begin_good S b e
  grow_good S b (good_letters {p = p} h) e = let k = pick_some (some_begins S (p ++ (b ∷ []))) e in good_as k.1 (good_letters k.0)
  grow_good S b (good_digits {n = n} h) e = good_as (pick_some (longer greatest n b) e).1 (good_digits h)
  grow_good S b (good_v h) e = good_as (pick_some (is_digit b) e).1 (good_index h)
  grow_good S b (good_index {n = n} h) e = good_as (pick_some (longer last_variable n b) e).1 (good_index h)

  pub data GoodSpot : Spot limit → Type 0 where
    good : {S : State limit} {P : Pending} → Good S P → GoodSpot (spot S P)

  spot_as : {B C : Spot limit} → B ≡ C → GoodSpot B → GoodSpot C
  spot_as e g = subst GoodSpot e g

  fresh_good : (b : ℕ) (R : State limit) {B : Spot limit}
      → ((Q : Pending) × (begin R b ≡ some Q) × (spot R Q ≡ B)) ⊎ ((is_blank b ≡ true) × (spot R Pending.nothing ≡ B)) → GoodSpot B
  fresh_good b R (inl x) = spot_as x.2 (good (begin_good R b x.1))
  fresh_good b R (inr x) = spot_as x.1 (good good_nothing)

  byte_good : {S : State limit} {P : Pending} (b : ℕ) {B : Spot limit} → Good S P
      → ((Q : Pending) × (grow S P b ≡ some Q) × (spot S Q ≡ B))
      ⊎ ((R : State limit) × (shut S (in_word b) P ≡ some R) × (fresh b R ≡ some B)) → GoodSpot B
  byte_good {S} b g (inl x) = spot_as x.2 (good (grow_good S b g x.1))
  byte_good b g (inr x) = fresh_good b x.0 (fresh_some b x.0 x.2)

  pub step_good : {B C : Spot limit} (b : ℕ) → GoodSpot B → byte_step B b ≡ some C → GoodSpot C
  step_good b (good {S = S} {P = P} g) e = byte_good b g (step_some S P b e)

  -- ---- and can be finished

  abbrev pub Finishes : Spot limit → Type 0
  Finishes B = (bs : List ℕ) × (r : Rule) × MeansBytes B bs r

  -- a blank, and then what finishes R
  closing_text : (R : State limit) → (r : Rule) × MeansBytes (spot R Pending.nothing) (32 ∷ render (finish R)) r
  unfolding is_blank
  closing_text R = let k = finishes R in (k.0, laid_reads (blank refl (laid_render (finish_in R))) R k.1)

  token_finishes : (S : State limit) (t : Token) → allows S t ≡ true → Finishes (spot S (pending_of t))
  unfolding begins_in_word in_word is_digit is_letter
  token_finishes S t a =
      let k = taking_some (step S t) a in
      let m = closing_text k.0 in
      (32 ∷ render (finish k.0), m.0, closes_read S k.0 (kind t) (32 ∷ render (finish k.0)) (λ h. refl) k.1 m.1)

  letters_finish : (S : State limit) (p : List ℕ) → some_begins S p ≡ true → Finishes (spot S (letters p))
  unfolding some_begins
  letters_finish S p h =
      let k = any_fixed (λ t. begins p (spell t) && allows S t) all_fixed h in
      let t : Token = k.0 in
      let two = and_true (begins p (spell t)) (allows S t) k.2 in
      let cut = begins_split p (spell t) two.0 in
      let m = token_finishes S t two.1 in
      let e : pending_of t ≡ letters (p ++ cut.0) = fixed_pending k.1 ∙ ap letters cut.1 in (
        cut.0 ++ m.0,
        m.1,
        leads_means (letters_lead S k.1 two.1 p cut.0 cut.1 m.0)
            (subst (λ (X : Pending). MeansBytes (spot S X) m.0 m.1) e m.2),
      )

  pub good_finishes : {B : Spot limit} → GoodSpot B → Finishes B
  unfolding pending_of
  good_finishes (good {S = S} good_nothing) = let k = finishes S in (render (finish S), k.0, laid_reads (laid_render (finish_in S)) S k.1)
  good_finishes (good {S = S} (good_letters {p = p} h)) = letters_finish S p h
  good_finishes (good {S = S} (good_digits {n = n} h)) = token_finishes S (number n) (number_allowed S n 0 ∙ h)
  good_finishes (good {S = S} (good_v h)) =
      let k = token_finishes S (variable 0) h in (48 ∷ k.0, k.1, taken_byte (begins_index S 0 (omega arith)) k.2)
  good_finishes (good {S = S} (good_index {n = n} h)) = token_finishes S (variable n) (variable_allowed S n 0 ∙ h)
