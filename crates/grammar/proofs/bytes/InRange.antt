-- Token lists in which every number and variable is in range, as layouts have them.
use mathlib.Core.Path.{◌≡◌}
use mathlib.Core.Bool.{true}
use mathlib.Core.List.{List, [], ◌∷◌}
use Prim.Native.Nat.{ℕ}
use Rattle.grammar.specs.Token.{Token}
use Rattle.grammar.specs.Spelling.{in_range}
use Rattle.grammar.specs.Layout.{Laid, done, blank, token}

pub data AllIn : List Token → Type 0 where
  none_in : AllIn []
  more_in : {t : Token} {ts : List Token} → in_range t ≡ true → AllIn ts → AllIn (t ∷ ts)

pub first_in : {t : Token} {ts : List Token} → AllIn (t ∷ ts) → in_range t ≡ true
first_in (more_in i a) = i

pub others_in : {t : Token} {ts : List Token} → AllIn (t ∷ ts) → AllIn ts
others_in (more_in i a) = a

pub laid_in : {bs : List ℕ} {ts : List Token} → Laid bs ts → AllIn ts
laid_in done = none_in
laid_in (blank h l) = laid_in l
laid_in (token i p l) = more_in i (laid_in l)
