-- The machine on numbers and nodes, driven by the tables. It keeps a mode, the levels that are left, a frame for each open phrase, and the
-- nodes that no node names yet; of both the innermost and last first. A frame that is complete is closed and makes its node of the last ones.
use Rattle.std.specs.Prelude.{ℕ, zero, suc, ◌+◌, ◌*◌, Bool, true, false, ◌||◌, cond, List, [], ◌∷◌, eqb, ltb, get_or}
use Rattle.std.proofs.Math.Option.{Option, none, some}
use Rattle.rules.specs.Table.{Kind, kind_of, unknown, negation, both, assign, sequence}
use Rattle.grammar.specs.Written.{Node, node, plain, child, kind_number, size}
use Rattle.tokens.specs.Tables.{acts, moves}

-- ---- the tables

-- the move of a row on a kind of token: 0 none, 1 the frame is complete
unfoldable pub act : ℕ → ℕ → ℕ
act row kind = get_or acts (32 * row + kind) 0

unfoldable pub move_at : ℕ → ℕ → ℕ
move_at a i = get_or moves (16 * a + i) 0

-- ---- nodes

-- what a node is made of: nothing, for there is none; a number alone; one to three nodes; a number and a node
pub data Form : Type 0 where
  no_node leaf one two three numbered : Form

unfoldable pub form_of : ℕ → Form
form_of zero = no_node
form_of (suc zero) = leaf
form_of (suc (suc zero)) = one
form_of (suc (suc (suc zero))) = two
form_of (suc (suc (suc (suc zero)))) = three
form_of (suc (suc (suc (suc (suc n))))) = numbered

unfoldable pub make : Form → Kind → ℕ → List Node → List Node
make no_node k x ns = ns
make leaf k x ns = node k (plain x) (plain 0) (plain 0) ∷ ns
make one k x (a ∷ ns) = node k (child a) (plain 0) (plain 0) ∷ ns
make one k x [] = []
make two k x (b ∷ a ∷ ns) = node k (child a) (child b) (plain 0) ∷ ns
make two k x (b ∷ []) = []
make two k x [] = []
make three k x (c ∷ b ∷ a ∷ ns) = node k (child a) (child b) (child c) ∷ ns
make three k x (c ∷ b ∷ []) = []
make three k x (c ∷ []) = []
make three k x [] = []
make numbered k x (a ∷ ns) = node k (plain x) (child a) (plain 0) ∷ ns
make numbered k x [] = []

-- how many nodes it is made of
unfoldable pub arity : Form → ℕ
arity no_node = 0
arity leaf = 0
arity one = 1
arity two = 2
arity three = 3
arity numbered = 1

-- how many nodes there are in all
unfoldable pub sizes : List Node → ℕ
sizes [] = 0
sizes (n ∷ ns) = size n + sizes ns

-- "a row of statements groups to the right"
unfoldable pub sequences : ℕ → List Node → List Node
sequences zero ns = ns
sequences (suc k) ns = sequences k (make two sequence 0 ns)

-- ---- frames

-- a frame's number: an amount, or the kind of the node that it makes
pub data Figure : Type 0 where
  amount : ℕ → Figure
  kind : Kind → Figure

unfoldable pub figure_number : Figure → ℕ
figure_number (amount n) = n
figure_number (kind k) = kind_number k

unfoldable pub figure_kind : Figure → Kind
figure_kind (amount n) = unknown
figure_kind (kind k) = k

pub data Frame : Type 0 where
  frame : ℕ → Figure → Frame

unfoldable pub tag_of : Frame → ℕ
tag_of (frame f x) = f

unfoldable pub figure_of : Frame → ℕ
figure_of (frame f x) = figure_number x

-- the node of a frame that is closed
unfoldable pub closing : Frame → List Node → List Node
closing (frame f x) ns =
    cond (eqb f 27) ns
    (cond (eqb f 19) (sequences (figure_number x) ns)
    (cond (eqb f 15) (make two both 0 ns)
    (cond (eqb f 25) (make one negation 0 ns)
    (cond (eqb f 28) (make numbered assign (figure_number x) ns) (make two (figure_kind x) 0 ns)))))

-- the frames that may be complete
unfoldable pub closes : ℕ → Bool
closes f = eqb f 15 || (eqb f 19 || (eqb f 25 || ltb 26 f))

-- how many nodes wait in a frame for the phrase at hand
unfoldable pub waiting_in : Frame → ℕ
waiting_in (frame f x) = cond (eqb f 19) (figure_number x) (cond (ltb f 17) 1 (cond (ltb f 19) 2 (cond (ltb 28 f) 1 0)))

unfoldable pub waiting_all : List Frame → ℕ
waiting_all [] = 0
waiting_all (f ∷ fs) = waiting_in f + waiting_all fs

-- ---- a move is found: frames are closed until one moves

pub data Found : Type 0 where
  found : ℕ → List Frame → List Node → Found

unfoldable pub seek_by : Bool → Found → Found → Found
seek_by true here later = later
seek_by false here later = here

unfoldable pub seek : ℕ → List Frame → List Node → Found
seek k [] ns = found 0 [] ns
seek k (f ∷ fs) ns = seek_by (eqb (act (tag_of f) k) 1) (found (act (tag_of f) k) (f ∷ fs) ns) (seek k fs (closing f ns))

-- the row of a mode: another one where no level is left
unfoldable pub row_of : ℕ → ℕ → ℕ
row_of mode zero = mode + 7
row_of mode (suc n) = mode

pub data Flat : Type 0 where
  flat : ℕ → ℕ → List Frame → List Node → Flat

unfoldable pub left_of : Flat → ℕ
left_of (flat mode left fs ns) = left

unfoldable pub frames_of : Flat → List Frame
frames_of (flat mode left fs ns) = fs

unfoldable pub nodes_of : Flat → List Node
nodes_of (flat mode left fs ns) = ns

-- whether a phrase is at hand
unfoldable pub at_hand : Flat → ℕ
at_hand (flat mode left fs ns) = cond (eqb mode 6) 1 0

unfoldable pub locate : Flat → ℕ → Found
locate (flat mode left fs ns) k = seek_by (eqb mode 6) (found (act (row_of mode left) k) fs ns) (seek k fs ns)

-- ---- a move is made

unfoldable pub closed : {A : Type 0} → ℕ → List A → List A
closed zero fs = fs
closed (suc n) [] = []
closed (suc n) (f ∷ fs) = fs

-- one statement more in the row
unfoldable pub counted : ℕ → List Frame → List Frame
counted zero fs = fs
counted (suc n) [] = []
counted (suc n) (frame f x ∷ fs) = frame f (amount (suc (figure_number x))) ∷ fs

unfoldable pub taken : ℕ → Figure → Figure
taken zero x = amount 0
taken (suc n) x = x

-- the frame opened first takes the number of the token
unfoldable pub figure_at : ℕ → Figure → ℕ → Figure
figure_at a x zero = taken (move_at a 11) x
figure_at a x (suc j) = amount 0

unfoldable pub opened_frame : ℕ → Figure → ℕ → Frame
opened_frame a x j = frame (move_at a (2 + j)) (figure_at a x j)

unfoldable pub opened : {A : Type 0} → (ℕ → A) → ℕ → List A → List A
opened f zero fs = fs
opened f (suc j) fs = f j ∷ opened f j fs

unfoldable pub level : ℕ → ℕ → ℕ
level zero zero = zero
level zero (suc n) = n
level (suc zero) n = n
level (suc (suc c)) n = suc n

unfoldable pub perform : ℕ → Figure → ℕ → List Frame → List Node → Flat
perform left x a fs ns =
    flat (move_at a 6) (level (move_at a 7) left)
    (opened (opened_frame a x) (move_at a 1) (counted (move_at a 10) (closed (move_at a 0) fs)))
    (make (form_of (move_at a 8)) (kind_of (move_at a 9)) (figure_number x) ns)

unfoldable pub perform_if : Bool → Flat → Option Flat
perform_if true F = none
perform_if false F = some F

unfoldable pub performed : ℕ → Figure → Found → Option Flat
performed left x (found a fs ns) = perform_if (eqb a 0) (perform left x a fs ns)

unfoldable pub moved : Flat → ℕ → Figure → Option Flat
moved F k x = performed (left_of F) x (locate F k)
