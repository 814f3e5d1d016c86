-- The relations may stand at the same places.
use mathlib.Core.Path.{◌≡◌, refl, sym, ap, ◌∙◌}
use mathlib.Core.Bool.{Bool, true, false, not}
use mathlib.Core.List.{List, [], ◌∷◌}
use Prim.Native.Nat.{ℕ, ◌+◌, ◌*◌, ◌<◌, ◌≤◌}
use native.Mathlib.Omega.{arith}
use lib.Dec.{eqb, ltb}
use borrow.Author.Tests.{ltb-true, ltb-false, eqb-true}
use Rattle.rules.specs.Lists.{every}
use Rattle.rules.proofs.ListLaws.{every_true}
use Rattle.tokens.specs.Tables.{acts}
use Rattle.tokens.specs.Flat.{act, row_of}
use Rattle.tokens.specs.Shape.{Shape, shape, Found, found, seek_by, seek, locate, move_of, may}
use Rattle.tokens.proofs.NodeLaws.{past_end}

row_same : (f : ℕ) → f < 32 → eqb (act f 23) (act f 24) ≡ true
unfolding every act acts
row_same = every_true (λ f. eqb (act f 23) (act f 24)) 32 refl

beyond : (f k : ℕ) → 32 ≤ f → act f k ≡ 0
unfolding act acts
beyond f k h = past_end acts (32 * f + k) (omega arith)

act_same : (f : ℕ) → act f 23 ≡ act f 24
act_same f = by (ltb f 32) refl
  where
    by : (b : Bool) → ltb f 32 ≡ b → act f 23 ≡ act f 24
    by true e = eqb-true (act f 23) (act f 24) (row_same f (ltb-true f 32 e))
    by false e = let h = ltb-false f 32 e in beyond f 23 h ∙ sym (beyond f 24 h)

by_same : (b : Bool) (v w x y : Found) → move_of v ≡ move_of w → move_of x ≡ move_of y → move_of (seek_by b v x) ≡ move_of (seek_by b w y)
unfolding seek_by
by_same true v w x y e f = f
by_same false v w x y e f = e

found_same : {a c : ℕ} (fs : List ℕ) → a ≡ c → move_of (found a fs) ≡ move_of (found c fs)
unfolding move_of
found_same fs e = e

seek_same : (fs : List ℕ) → move_of (seek 23 fs) ≡ move_of (seek 24 fs)
unfolding seek
seek_same [] = refl
seek_same (f ∷ fs) =
    let e = act_same f in
    rw e (by_same (eqb (act f 24) 1) _ _ (seek 23 fs) (seek 24 fs) (found_same (f ∷ fs) refl) (seek_same fs))

pub relations_may : (sh : Shape) → may sh 23 ≡ may sh 24
unfolding may locate
relations_may (shape mode left fs) =
    ap (λ (m : ℕ). not (eqb m 0))
    (by_same (eqb mode 6) _ _ (seek 23 fs) (seek 24 fs) (found_same fs (act_same (row_of mode left))) (seek_same fs))
