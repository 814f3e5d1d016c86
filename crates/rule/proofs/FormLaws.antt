-- The form and the kind of the node that a frame makes when it is closed.
use mathlib.Core.Path.{◌≡◌}
use mathlib.Core.Bool.{cond}
use Prim.Native.Nat.{ℕ}
use lib.Dec.{eqb}
use borrow.Author.Tests.{ne_eqb}
use Rattle.tokens.specs.Flat.{Form, one, two, numbered}
use Rattle.rule.specs.inside.Nodes.{kind_of_two}

unfoldable pub closing_form : ℕ → Form
closing_form f = cond (eqb f 25) one (cond (eqb f 28) numbered two)

unfoldable pub closing_kind : ℕ → ℕ → ℕ
closing_kind f x = cond (eqb f 25) 21 (cond (eqb f 28) 33 (kind_of_two f x))

pub form_not : {f : ℕ} → f ≡ 25 → one ≡ closing_form f
unfolding closing_form
form_not e = rw e

pub form_assign : {f : ℕ} → f ≡ 28 → numbered ≡ closing_form f
unfolding closing_form
form_assign e = rw e

pub form_both : {f : ℕ} → f ≡ 15 → two ≡ closing_form f
unfolding closing_form
form_both e = rw e

pub form_two : {f : ℕ} → (f ≡ 25 → ⊥) → (f ≡ 28 → ⊥) → two ≡ closing_form f
unfolding closing_form
form_two {f} b c = rw (ne_eqb f 25 b, ne_eqb f 28 c)

pub kind_not : {f : ℕ} (x : ℕ) → f ≡ 25 → 21 ≡ closing_kind f x
unfolding closing_kind
kind_not x e = rw e

pub kind_assign : {f : ℕ} (x : ℕ) → f ≡ 28 → 33 ≡ closing_kind f x
unfolding closing_kind
kind_assign x e = rw e

pub kind_both : {f : ℕ} (x : ℕ) → f ≡ 15 → 22 ≡ closing_kind f x
unfolding closing_kind kind_of_two
kind_both x e = rw e

pub kind_own : {f : ℕ} (x : ℕ) → (f ≡ 15 → ⊥) → (f ≡ 25 → ⊥) → (f ≡ 28 → ⊥) → x ≡ closing_kind f x
unfolding closing_kind kind_of_two
kind_own {f} x a b c = rw (ne_eqb f 25 b, ne_eqb f 28 c, ne_eqb f 15 a)
