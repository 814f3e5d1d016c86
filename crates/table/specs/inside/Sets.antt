-- Sets of nodes as bits (02, A3: "Keep them as bits"), and what the check keeps in them: the nodes named once and again, and a level of
-- the tree.
use Rattle.std.specs.Prelude.{ℕ, ◌+◌, ◌*◌, ◌-◌, ◌/◌, ◌%◌, ◌<◌, ◌≤◌, ◌≡◌, cond, eqb, length, get_or, set, replicate}
use mathlib.Core.List.{List, [], foldl}
use Rattle.bits.specs.Bit.{bit, with_bit}
use Rattle.rules.specs.Lists.{joined}
use Rattle.rules.specs.Table.{nodes, children, depth_at}

-- 1 for a node that the set holds, otherwise 0
unfoldable pub held : List ℕ → ℕ → ℕ
held row k = bit (get_or row (k / 32) 0) (k % 32)

unfoldable pub put : List ℕ → ℕ → List ℕ
put row k = set row (k / 32) (with_bit (get_or row (k / 32) 0) (k % 32))

-- ---- marks

-- the nodes named, and those of them named again
abbrev pub Marks : Type 0
Marks = List ℕ × List ℕ

-- how often a node is named, but at most 2
abbrev pub named : Marks → ℕ → ℕ
named m k = held m.0 k + held m.1 k

unfoldable pub bump : Marks → ℕ → Marks
bump m k = cond (eqb (held m.0 k) 1) (m.0, put m.1 k) (put m.0 k, m.1)

unfoldable pub bumps : Marks → List ℕ → Marks
bumps m ks = foldl bump m ks

-- the marks once every node is walked
unfoldable pub marks_of : List ℕ → Marks
marks_of t = bumps (replicate 32 0, replicate 32 0) (joined (children t) (nodes t))

-- every node below n is named exactly once
abbrev pub AllOnce : Marks → ℕ → Type 0
AllOnce m n = (k : ℕ) → k < n → named m k ≡ 1

-- r is the nodes of a word that are not named exactly once
abbrev pub NotOnce : ℕ → ℕ → ℕ → Type 0
NotOnce once again r = (j : ℕ) → j < 32 → bit r j ≡ 1 - (bit once j + bit again j) % 2

-- r is the first node not named exactly once, or 1,024
pub record FirstNotOnce (m : Marks) (r : ℕ) : Type 0 where
  pub once : (k : ℕ) → k < r → named m k ≡ 1
  pub most : r ≤ 1024
  pub not_once : r < 1024 → named m r ≡ 1 → ⊥

-- ---- levels

-- a set of nodes, and a word that tells which words of the set are not empty
abbrev pub Nodes : Type 0
Nodes = List ℕ × ℕ

unfoldable pub add : Nodes → ℕ → Nodes
add m k = (put m.0 k, with_bit m.1 (k / 32))

unfoldable pub adds : Nodes → List ℕ → Nodes
adds m ks = foldl add m ks

-- the children of the nodes in word i of a set, where that word is w
unfoldable pub under : List ℕ → ℕ → ℕ → List ℕ
under t i w = joined (λ j. cond (eqb (bit w j) 1) (children t (32 * i + j)) []) 32

-- these nodes are of the table
abbrev pub Inside : List ℕ → ℕ → ℕ → Type 0
Inside t i w = (j : ℕ) → j < 32 → bit w j ≡ 1 → 32 * i + j < nodes t

-- nodes of the table, the deepest of which has depth h; of none it is 0
pub record Level (t : List ℕ) (m : Nodes) (h : ℕ) : Type 0 where
  pub room : length m.0 ≡ 32
  pub inside : (k : ℕ) → held m.0 k ≡ 1 → k < nodes t
  pub most : (k : ℕ) → held m.0 k ≡ 1 → depth_at t k ≤ h
  pub some : 0 < h → (k : ℕ) × (held m.0 k ≡ 1) × (depth_at t k ≡ h)
  -- a word with a node is told to be in use, and where one is told to be, there is a node
  pub told : (k : ℕ) → held m.0 k ≡ 1 → bit m.1 (k / 32) ≡ 1
  pub full : (m.1 ≡ 0 → ⊥) → (k : ℕ) × (held m.0 k ≡ 1)
