-- The shape of the machine: its mode, the levels that are left, and the numbers of its frames, without nodes. It tells which tokens may follow.
use Rattle.std.specs.Prelude.{ℕ, ◌+◌, Bool, true, false, not, cond, List, [], ◌∷◌, eqb}
use Rattle.tokens.specs.Flat.{act, move_at, row_of, Frame, tag_of, Flat, flat, closed, opened, level}
use Rattle.grammar.specs.machine.Reader.{State}
use Rattle.tokens.specs.Stand.{flat_of}

pub data Shape : Type 0 where
  shape : ℕ → ℕ → List ℕ → Shape

unfoldable pub tags : List Frame → List ℕ
tags [] = []
tags (f ∷ fs) = tag_of f ∷ tags fs

unfoldable pub forget : Flat → Shape
forget (flat mode left fs ns) = shape mode left (tags fs)

abbrev pub shape_of : {limit : ℕ} → State limit → Shape
shape_of S = forget (flat_of S)

-- a move, and the frames where it is made
pub data Found : Type 0 where
  found : ℕ → List ℕ → Found

unfoldable pub seek_by : Bool → Found → Found → Found
seek_by true here later = later
seek_by false here later = here

unfoldable pub seek : ℕ → List ℕ → Found
seek kind [] = found 0 []
seek kind (f ∷ fs) = seek_by (eqb (act f kind) 1) (found (act f kind) (f ∷ fs)) (seek kind fs)

unfoldable pub locate : Shape → ℕ → Found
locate (shape mode left fs) kind = seek_by (eqb mode 6) (found (act (row_of mode left) kind) fs) (seek kind fs)

unfoldable pub left_of : Shape → ℕ
left_of (shape mode left fs) = left

unfoldable pub move_of : Found → ℕ
move_of (found a fs) = a

unfoldable pub may : Shape → ℕ → Bool
may s kind = not (eqb (move_of (locate s kind)) 0)

-- at the end of the text, as kind 29: nothing is left open
unfoldable pub none_open : Found → Bool
none_open (found a []) = true
none_open (found a (f ∷ fs)) = false

unfoldable pub complete : Shape → Bool
complete (shape mode left fs) = cond (eqb mode 6) (none_open (seek 29 fs)) false

-- a move is made
unfoldable pub enter : ℕ → ℕ → List ℕ → Shape
enter left a fs = shape (move_at a 6) (level (move_at a 7) left) (opened (λ j. move_at a (2 + j)) (move_at a 1) (closed (move_at a 0) fs))
