-- What the private functions of the check promise each other: the parts of the answer.
use Rattle.std.specs.Prelude.{ℕ, ◌<◌, ◌≤◌, ◌≡◌, Bool, true, not, List, eqb, ltb, Option as Maybe, Some, None}
use Rattle.std.proofs.Math.Option.{Option}
use Rattle.rules.specs.Lists.{joined}
use Rattle.rules.specs.Refusal.{number_of, fine, refuse, refuse_lowest, ◌or_else◌}
use Rattle.rules.specs.Table.{nodes, root, statement, is_class, Slot}
use Rattle.rules.specs.Table.{word_fault, node_fault, once_fault, child_in, children, depth_at}
use Rattle.rules.specs.declared.Reason.{Reason}
use Rattle.rules.specs.declared.Refusal.{Refusal}
use Rattle.rules.specs.Answer.{Answer}
use Rattle.table.specs.Checking.{answer}
use Rattle.table.specs.inside.Sets.{Marks, bumps, marks_of}

-- ---- words and nodes

-- node n is one of at most 1,024
pub record Within (t : List ℕ) (n : ℕ) : Type 0 where
  pub inside : n < nodes t
  pub few : nodes t ≤ 1024

-- the same, and no node below n has a fault
pub record Reached (t : List ℕ) (n : ℕ) : Type 0 where
  pub within : Within t n
  pub passed : (k : ℕ) → k < n → node_fault t k ≡ fine

-- r is whether the word w has no fault, and then the child that it names is marked
pub record Placed (t : List ℕ) (n : ℕ) (s : Slot) (w : ℕ) (m : Marks) (r : Bool) (m' : Marks) : Type 0 where
  pub right : r ≡ eqb (word_fault t n s w) fine
  pub marked : r ≡ true → m' ≡ bumps m (child_in s w)

-- the number of a reason, where there is one (`Maybe` is the `Option` of the code)
abbrev pub number_in : Maybe Reason → ℕ
number_in None = fine
number_in (Some r) = number_of r

-- r is whether node n has no fault, and then its children are marked
pub record Walked (t : List ℕ) (n : ℕ) (m : Marks) (r : Bool) (m' : Marks) : Type 0 where
  pub right : r ≡ eqb (node_fault t n) fine
  pub marked : r ≡ true → m' ≡ bumps m (children t n)

-- no node is refused 2 to 6
abbrev pub Sound : List ℕ → Type 0
Sound t = (n : ℕ) → n < nodes t → node_fault t n ≡ fine

-- r answers 2 to 6, and where there is none of them every child is marked
pub record Swept (t : List ℕ) (m : Marks) (r : Answer (Unit {0})) (m' : Marks) : Type 0 where
  pub answered : r ≡ answer (refuse_lowest (node_fault t) (nodes t))
  pub marked : Sound t → m' ≡ bumps m (joined (children t) (nodes t))

-- ---- the tree

-- refusals 7 to 9
unfoldable pub tree_refusal : List ℕ → Option Refusal
tree_refusal t =
    refuse (not (is_class t statement (root t))) 7 (root t)
    or_else refuse_lowest (once_fault t) (root t)
    or_else refuse (ltb 256 (depth_at t (root t))) 9 0

-- what is known when they are looked for
pub record Marked (t : List ℕ) (m : Marks) : Type 0 where
  pub within : Within t (root t)
  pub sound : Sound t
  pub marks : m ≡ marks_of t
