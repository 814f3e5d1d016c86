-- Decimal digits: one digit, and one digit more.
use mathlib.Core.Path.{◌≡◌, refl, sym, ap, ◌∙◌}
use mathlib.Core.Bool.{Bool, true, false}
use mathlib.Core.List.{List, [], ◌∷◌, ◌++◌}
use Prim.Native.Nat.{ℕ, zero, suc, ◌+◌, ◌*◌, ◌/◌, ◌%◌, ◌<◌, ◌≤◌}
use native.Mathlib.Omega.{arith}
use lib.Dec.{ltb}
use borrow.Author.Tests.{ltb-true, ltb-false, lt-ltb, le-ltb}
use Rattle.grammar.specs.Spelling.{decimal_in, decimal}

pub small : (f v : ℕ) → v < 10 → decimal_in f v ≡ (48 + v) ∷ []
unfolding decimal_in
small zero v h = refl
small (suc f) v h = rw (lt-ltb v 10 h, decimal_in)

pub big : (f v : ℕ) → 10 ≤ v → decimal_in (suc f) v ≡ decimal_in f (v / 10) ++ ((48 + v % 10) ∷ [])
unfolding decimal_in
big f v h = rw (le-ltb v 10 h, decimal_in)

divides : (n d : ℕ) → d < 10 → ((10 * n + d) / 10 ≡ n) × ((10 * n + d) % 10 ≡ d)
divides n d h = (omega arith, omega arith)

enough : (f g v : ℕ) → v ≤ f → v ≤ g → decimal_in f v ≡ decimal_in g v
enough zero g v h k = small zero v (omega arith) ∙ sym (small g v (omega arith))
enough (suc f) zero v h k = small (suc f) v (omega arith) ∙ sym (small zero v (omega arith))
enough (suc f) (suc g) v h k = split (ltb v 10) refl (λ (l : 10 ≤ v). enough f g (v / 10) (omega arith) (omega arith))
  where
    split : (b : Bool) → ltb v 10 ≡ b → (10 ≤ v → decimal_in f (v / 10) ≡ decimal_in g (v / 10))
        → decimal_in (suc f) v ≡ decimal_in (suc g) v
    split true e low = small (suc f) v (ltb-true v 10 e) ∙ sym (small (suc g) v (ltb-true v 10 e))
    split false e low =
        let l : 10 ≤ v = ltb-false v 10 e in
        big f v l ∙ ap (λ (p : List ℕ). p ++ ((48 + v % 10) ∷ [])) (low l) ∙ sym (big g v l)

pub one_digit : (d : ℕ) → d < 10 → decimal d ≡ (48 + d) ∷ []
unfolding decimal
one_digit d h = small d d h

pub digit_more : (n d : ℕ) → 1 ≤ n → d < 10 → decimal (10 * n + d) ≡ decimal n ++ ((48 + d) ∷ [])
unfolding decimal
digit_more n d h k =
    let v : ℕ = 10 * n + d in
    let q = divides n d k in
    enough v (suc v) v (omega arith) (omega arith)
    ∙ big v v (omega arith)
    ∙ rw (q.0, q.1) (ap (λ (p : List ℕ). p ++ ((48 + d) ∷ [])) (enough v n n (omega arith) (omega arith)))
