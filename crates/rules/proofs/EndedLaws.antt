-- How calls end (specs/Answer), proved once for every call: what `unless_refused` gives in each case, what an answer says of the case it
-- came from, and that one definition admits one end.
use mathlib.Core.Path.{◌≡◌, refl, ap, sym, ◌∙◌}
use mathlib.Core.List.{List}
use mathlib.Core.Option.{Option, none, some}
use Prim.Native.Nat.{ℕ}
use native.Mathlib.Omega.{arith}
use lib.Seq.{sets}
use Rattle.std.specs.Prelude.{Ok, Err}
use Rattle.rules.specs.Answer.{Answer, Ended, ended, unless_refused, done}
use Rattle.rules.specs.declared.Refusal.{Refusal}

module _ {Told Lent : Type 0} {end : Ended Told Lent} {x : Told} {l : Lent} where
  pub answer_is : ended x l ≡ end → x ≡ end.answer
  answer_is e = ap (λ (z : Ended Told Lent). z.answer) e

  pub after_is : ended x l ≡ end → l ≡ end.after
  after_is e = ap (λ (z : Ended Told Lent). z.after) e

  -- two ends that meet one definition have one answer, and leave what was lent the same
  pub one_end : {y : Told} {m : Lent} → ended x l ≡ end → ended y m ≡ end → (x ≡ y) × (l ≡ m)
  one_end p q = (answer_is p ∙ sym (ap (λ (z : Ended Told Lent). z.answer) q), after_is p ∙ sym (ap (λ (z : Ended Told Lent). z.after) q))

-- ---- which refusal an answer carries

abbrev pub carried : {A : Type 0} → Answer A → Option Refusal
carried (Ok a) = none
carried (Err r) = some r

-- what was done is the same
pub ok_is : {A : Type 0} {a b : A} → ◌≡◌ {A = Answer A} (Ok a) (Ok b) → a ≡ b
ok_is e = cc

pub err_is : {A : Type 0} {q r : Refusal} → ◌≡◌ {A = Answer A} (Err q) (Err r) → q ≡ r
err_is e = cc

pub done_or_refused : {A : Type 0} {a : A} {r : Refusal} → ◌≡◌ {A = Answer A} (Ok a) (Err r) → ⊥
done_or_refused e = cc

-- ---- refused or not

never : {r : Refusal} → some r ≡ none → ⊥
never {r} e = let z : ◌≡◌ {A = ℕ} 0 1 = cc in omega arith

module _ {A Lent : Type 0} (o : Option Refusal) (lent : Lent) (end : Ended (Answer A) Lent) where
  pub ends_refused : {r : Refusal} → o ≡ some r → unless_refused o lent end ≡ ended (Err r) lent
  unfolding unless_refused
  ends_refused e = rw e

  pub ends_unrefused : o ≡ none → unless_refused o lent end ≡ end
  unfolding unless_refused
  ends_unrefused e = rw e

-- what holds of each of the two ends holds of the call's
pub either_end : {A Lent : Type 0} (o : Option Refusal) (lent : Lent) (end : Ended (Answer A) Lent)
    (P : Ended (Answer A) Lent → Type 0) → ((r : Refusal) → o ≡ some r → P (ended (Err r) lent)) → (o ≡ none → P end)
    → P (unless_refused o lent end)
unfolding unless_refused
either_end (some r) lent end P refused unrefused = refused r refl
either_end none lent end P refused unrefused = unrefused refl

module _ {A Lent : Type 0} where
  -- an answer that carries no refusal came from a call without one
  pub was_unrefused : (o : Option Refusal) (lent : Lent) (end : Ended (Answer A) Lent) {x : Answer A} {l : Lent} → carried x ≡ none
      → ended x l ≡ unless_refused o lent end → (o ≡ none) × (ended x l ≡ end)
  unfolding unless_refused
  was_unrefused (some r) lent end plain e = absurd (never (ap carried (sym (answer_is e)) ∙ plain))
  was_unrefused none lent end plain e = (refl, e)

  -- a refusal is the one that its call earned, and what was lent is as it was
  pub was_refused : (o : Option Refusal) (lent : Lent) (end : Ended (Answer A) Lent) {r : Refusal} {l : Lent} → carried end.answer ≡ none
      → ended (Err r) l ≡ unless_refused o lent end → (o ≡ some r) × (l ≡ lent)
  unfolding unless_refused
  was_refused (some q) lent end {r} plain e = (ap carried (sym (answer_is e)), after_is e)
  was_refused none lent end {r} plain e = absurd (never (ap carried (answer_is e) ∙ plain))

-- what an answer on text that is done says
pub text_done : (o : Option Refusal) (amount n : ℕ) (room written after : List ℕ)
    → ended (Ok n) after ≡ unless_refused o room (done amount room written)
    → (o ≡ none) × (n ≡ amount) × (after ≡ sets room 0 written)
text_done o amount n room written after e =
    let is = was_unrefused o room (done amount room written) refl e in
    let answers : ◌≡◌ {A = Answer ℕ} (Ok n) (Ok amount) = answer_is is.1 in
    (is.0, cc, after_is is.1)
