-- What the functions on the arrays of frames ask and promise: the numbers of the frames in one array, their figures in another.
use Rattle.std.specs.Prelude.{◌≡◌, ℕ, zero, suc, ◌+◌, ◌%◌, ◌≤◌, List, [], ◌∷◌, ◌++◌, length, get_or}
use Rattle.tokens.specs.declared.moves.Place.{Place}
use Rattle.tokens.specs.declared.moves.Standing.{Standing}
use Rattle.tokens.specs.Tables.{acts, spellings, classes, numbers}
use Rattle.tokens.specs.Flat.{act, row_of, move_at, closed, opened}
use Rattle.tokens.specs.Shape.{Shape, shape, found, seek, locate, enter}

-- the first `top` numbers of an array, the last first
unfoldable pub stack : List ℕ → ℕ → List ℕ
stack l zero = []
stack l (suc i) = get_or l i 0 ∷ stack l i

-- the tables, as the code has them
pub record Acts (l : List ℕ) : Type 0 where
  pub is : l ≡ acts

pub record Spellings (l : List ℕ) : Type 0 where
  pub is : l ≡ spellings

pub record Classes (l : List ℕ) : Type 0 where
  pub is : l ≡ classes

pub record Numbers (l : List ℕ) : Type 0 where
  pub is : l ≡ numbers

-- r moves as the row of a mode
pub record RowIs (mode left r : ℕ) : Type 0 where
  pub is : (kind : ℕ) → act r kind ≡ act (row_of mode left) kind

pub record Sought (st : List ℕ) (top kind a t : ℕ) : Type 0 where
  pub is : seek kind (stack st top) ≡ found a (stack st t)
  pub below : t ≤ top

-- the shape of a standing
abbrev pub standing : List ℕ → Standing → Shape
standing st s = shape s.mode s.left (stack st s.top)

pub record Located (st : List ℕ) (s : Standing) (kind a t : ℕ) : Type 0 where
  pub is : locate (standing st s) kind ≡ found a (stack st t)
  pub below : t ≤ s.top

-- ---- a move is made

pub record Lower (top n r : ℕ) : Type 0 where
  pub is : (l : List ℕ) → stack l r ≡ closed n (stack l top)
  pub below : r ≤ top

-- one statement more in the row; where the number is full it begins again
unfoldable pub counted_number : ℕ → List ℕ → List ℕ
counted_number zero ks = ks
counted_number (suc n) [] = []
counted_number (suc n) (k ∷ ks) = (suc k % 4294967296) ∷ ks

unfoldable pub taken_number : ℕ → ℕ → ℕ
taken_number zero x = 0
taken_number (suc n) x = x

unfoldable pub number_at : ℕ → ℕ → ℕ
number_at x zero = x
number_at x (suc j) = 0

pub record Counted (l : List ℕ) (top n : ℕ) (after : List ℕ) : Type 0 where
  pub is : stack after top ≡ counted_number n (stack l top)
  pub room : length after ≡ length l

-- the frames fs are opened over the first `base`, the first of them with the number x
pub record Opened (st ar : List ℕ) (base : ℕ) (fs : List ℕ) (x mode left : ℕ) (st₂ ar₂ : List ℕ) (r : Standing) : Type 0 where
  pub mode_is : r.mode ≡ mode
  pub left_is : r.left ≡ left
  pub tags_are : stack st₂ r.top ≡ fs ++ stack st base
  pub figures_are : stack ar₂ r.top ≡ opened (number_at x) (length fs) (stack ar base)
  pub top_is : r.top ≡ base + length fs
  pub room : (length st₂ ≡ length st) × (length ar₂ ≡ length ar)

unfoldable pub entered : ℕ → ℕ → List ℕ → List ℕ
entered a x ks = opened (number_at (taken_number (move_at a 11) x)) (move_at a 1) (counted_number (move_at a 10) (closed (move_at a 0) ks))

pub record Entered (st ar : List ℕ) (left : ℕ) (p : Place) (x : ℕ) (st₂ ar₂ : List ℕ) (r : Standing) : Type 0 where
  pub tags_are : standing st₂ r ≡ enter left p.act (stack st p.top)
  pub figures_are : stack ar₂ r.top ≡ entered p.act x (stack ar p.top)
  pub room : (length st₂ ≡ length st) × (length ar₂ ≡ length ar)
