-- What the parts of the compiler need and give: the code of a node's statement, as the instructions from i on of code that begins
-- at a start label, so that instruction i bears the label start + i.
use Rattle.std.specs.Prelude.{◌≡◌, ℕ, ◌+◌, ◌*◌, ◌<◌, ◌≤◌, List, [], ◌∷◌, length}
use Rattle.std.proofs.lemmas.List.Edits.{sets}
use Rattle.rules.specs.While.{Stm}
use Rattle.rules.specs.Compilation.{size, compile}
use Rattle.rules.specs.Table.{field, nodes, Kind, statement, row_at, tree_at, stm_of, Accepted}
use Rattle.rules.specs.CodeWords.{width, words_of}
use Rattle.compiler.specs.declared.Operation.{Operation}
use Rattle.compiler.specs.declared.Operation.TheVariants.{Assign, Goto, Ifnot}
use Rattle.compiler.specs.declared.Code.{Code}

-- the words of node n, as locals hold them
pub record Words (t : List ℕ) (n w p q r : ℕ) : Type 0 where
  pub is_kind : w ≡ field t n 0
  pub is_p : p ≡ field t n 1
  pub is_q : q ≡ field t n 2
  pub is_r : r ≡ field t n 3

-- the number of an operation among the words
abbrev pub number : Operation → ℕ
number o = elim o [ Assign ↦ 1 | Goto ↦ 2 | Ifnot ↦ 3 ]

-- "label, operation, x, y"
abbrev pub frame : ℕ → ℕ → ℕ → ℕ → List ℕ
frame label operation x y = label ∷ operation ∷ x ∷ y ∷ []

-- what the words hold once a frame is written as instruction i
abbrev pub framed : List ℕ → ℕ → List ℕ → List ℕ
framed room i ws = sets room (width * i) ws

-- the code begins with the label with which it began, in the same room
pub record Kept (before after : Code) : Type 0 where
  pub start : after.start ≡ before.start
  pub room : after.room.ghost_name ≡ before.room.ghost_name
  pub long : length after.room.now ≡ length before.room.now

-- there is room for instruction i, and it has a label
pub record Place (room start i : ℕ) : Type 0 where
  pub words : width * i + width ≤ room
  pub label : start + i ≤ 65535

abbrev pub stm_at : List ℕ → ℕ → Stm
stm_at t n = stm_of (tree_at t n)

-- the code of node n's statement fits, from instruction i on
pub record Fits (t : List ℕ) (n start room i : ℕ) : Type 0 where
  pub accepted : Accepted t
  pub inside : n < nodes t
  pub class : (row_at t n).class ≡ statement
  pub labels : start + (i + size (stm_at t n)) ≤ 65535
  pub words : width * (i + size (stm_at t n)) ≤ room

-- the code of s stands in `after` as the instructions from i on, next is the one after it, and all else is as before
pub record Written (s : Stm) (start i : ℕ) (before after : List ℕ) (next : ℕ) : Type 0 where
  pub end : next ≡ i + size s
  pub code : after ≡ sets before (width * i) (words_of (compile s (start + i)))

-- the instructions that a node of a kind adds to those of its children
unfoldable pub adds : Kind → ℕ
adds Kind.number = 0
adds Kind.variable = 0
adds (Kind.binary o) = 0
adds Kind.choose = 0
adds (Kind.truth v) = 0
adds (Kind.compare o) = 0
adds Kind.negation = 0
adds Kind.both = 0
adds Kind.skip = 0
adds Kind.assign = 1
adds Kind.sequence = 0
adds Kind.if = 2
adds Kind.while = 2
adds Kind.unknown = 0
