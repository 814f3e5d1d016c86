-- The nodes that no node names yet, as arrays hold them: their numbers, their depths and all words written; and what the
-- functions promise that make a node of the last ones.
use Rattle.std.specs.Prelude.{◌≡◌, ℕ, zero, suc, ◌+◌, ◌-◌, ◌*◌, ◌<◌, ◌≤◌, max, true, cond, List, [], ◌∷◌, ◌++◌, eqb, length, get_or, take, set}
use Rattle.rules.specs.Table.{Kind}
use Rattle.grammar.specs.Written.{Node, kind_number, size, depth, written}
use Rattle.tokens.specs.Flat.{no_node, leaf, one, two, three, numbered, make, arity, sizes, sequences, amount, kind}
use Rattle.tokens.specs.Flat
use Rattle.tokens.specs.Flat.{Frame, frame, tag_of, figure_of, closing, closes, waiting_in, waiting_all}
use Rattle.tokens.specs.Shape.{tags}
use Rattle.tokens.specs.Arrays.{stack}
use Rattle.tokens.specs.declared.moves.Stack.{Stack}
use Rattle.rule.specs.declared.nodes.Form.{Form}
use Rattle.rule.specs.declared.nodes.Form.TheVariants.{Leaf, One, Two, Three, Numbered}
use Rattle.rule.specs.declared.nodes.Nodes.{Nodes}

-- ---- nodes in arrays, the last first

-- the number of each, all being written one after the other
unfoldable pub roots_of : List Node → List ℕ
roots_of [] = []
roots_of (n ∷ ns) = (sizes ns + size n - 1) ∷ roots_of ns

unfoldable pub depths_of : List Node → List ℕ
depths_of [] = []
depths_of (n ∷ ns) = depth n ∷ depths_of ns

unfoldable pub written_of : List Node → List ℕ
written_of [] = []
written_of (n ∷ ns) = written_of ns ++ written (sizes ns) n

pub record Holds (ns : List Node) (roots deep words : List ℕ) (depth count : ℕ) : Type 0 where
  pub roots_are : stack roots depth ≡ roots_of ns
  pub depths_are : stack deep depth ≡ depths_of ns
  pub words_are : take (4 * count) words ≡ written_of ns
  pub count_is : count ≡ sizes ns

abbrev pub Held : List Node → Nodes → Type 0
Held ns Ns = Holds ns Ns.roots Ns.deep Ns.words Ns.depth Ns.count

-- ---- a node

-- what the code names a form
abbrev pub form_is : Form → Flat.Form
form_is Leaf = leaf
form_is One = one
form_is Two = two
form_is Three = three
form_is Numbered = numbered

-- its words, where a, b and c are the nodes that it is made of, and the depth below it
unfoldable pub first : Flat.Form → ℕ → ℕ → ℕ
first no_node x a = x
first leaf x a = x
first one x a = a
first two x a = a
first three x a = a
first numbered x a = x

unfoldable pub second : Flat.Form → ℕ → ℕ → ℕ
second no_node a b = 0
second leaf a b = 0
second one a b = 0
second two a b = b
second three a b = b
second numbered a b = a

unfoldable pub third : Flat.Form → ℕ → ℕ
third no_node c = 0
third leaf c = 0
third one c = 0
third two c = 0
third three c = c
third numbered c = 0

unfoldable pub below : Flat.Form → ℕ → ℕ → ℕ → ℕ
below no_node a b c = 0
below leaf a b c = 0
below one a b c = a
below two a b c = max a b
below three a b c = max (max a b) c
below numbered a b c = a

-- four words more
pub record Put (words : List ℕ) (count a b c d : ℕ) (after : List ℕ) : Type 0 where
  pub front : take (4 * count + 4) after ≡ take (4 * count) words ++ (a ∷ b ∷ c ∷ d ∷ [])

-- n nodes from `base` on are there, of which the last is the last that was written
pub record Writing (Ns : Nodes) (base n : ℕ) (form : Flat.Form) : Type 0 where
  pub some : 0 < n → 0 < Ns.count
  pub last : (i : ℕ) → n ≡ suc i → get_or Ns.roots (base + i) 0 ≡ Ns.count - 1
  pub base_few : base ≤ 1024
  pub free : Ns.count < 1024
  pub depth_few : below form (get_or Ns.deep base 0) (get_or Ns.deep (base + 1) 0) (get_or Ns.deep (base + 2) 0) ≤ 1024

pub record NodeWritten (Ns : Nodes) (base : ℕ) (form : Flat.Form) (kind x : ℕ) (Ns₂ : Nodes) : Type 0 where
  pub roots_are : Ns₂.roots ≡ set Ns.roots base Ns.count
  pub depths_are : Ns₂.deep
      ≡ set Ns.deep base (below form (get_or Ns.deep base 0) (get_or Ns.deep (base + 1) 0) (get_or Ns.deep (base + 2) 0) + 1)
  pub put : Put Ns.words Ns.count kind (first form x (get_or Ns.roots base 0))
      (second form (get_or Ns.roots base 0) (get_or Ns.roots (base + 1) 0))
      (third form (get_or Ns.roots (base + 2) 0)) Ns₂.words
  pub depth_is : Ns₂.depth ≡ base + 1
  pub count_is : Ns₂.count ≡ Ns.count + 1

-- the nodes that are held, as long as they are not too many, and those that a node of this form is made of are among them
pub record Parts (Ns : Nodes) (n : ℕ) : Type 0 where
  pub nodes : List Node
  pub held : Held nodes Ns
  pub parts : n ≤ length nodes

pub record Making (Ns : Nodes) (form : Flat.Form) : Type 0 where
  pub most : Ns.count ≤ 1025
  pub some : Ns.count ≤ 1024 → Parts Ns (arity form)

-- the nodes ns become ms, or ms are too many
pub record Become (ns ms : List Node) (Ns Ns₂ : Nodes) : Type 0 where
  pub held : Ns₂.count ≤ 1024 → Held ns Ns → Held ms Ns₂
  pub full : 1024 < Ns₂.count → Held ns Ns → 1024 < sizes ms

-- and where they were too many they still are
pub record Kept (Ns Ns₂ : Nodes) : Type 0 where
  pub most : Ns₂.count ≤ 1025
  pub same : Ns₂.count ≤ 1024 → Ns.count ≤ 1024

pub record Made (Ns : Nodes) (form : Flat.Form) (kind x : ℕ) (Ns₂ : Nodes) : Type 0 where
  pub become : (k : Kind) (ns : List Node) → kind_number k ≡ kind → arity form ≤ length ns
      → Become ns (make form k x ns) Ns Ns₂
  pub kept : Kept Ns Ns₂

-- ---- a row of statements

pub record Rowing (Ns : Nodes) (k : ℕ) : Type 0 where
  pub most : Ns.count ≤ 1025
  pub some : Ns.count ≤ 1024 → Parts Ns (suc k)

pub record RowMade (Ns : Nodes) (k : ℕ) (Ns₂ : Nodes) : Type 0 where
  pub become : (ns : List Node) → k < length ns → Become ns (sequences k ns) Ns Ns₂
  pub kept : Kept Ns Ns₂

-- ---- a frame

-- the kind of a node made of two
unfoldable pub kind_of_two : ℕ → ℕ → ℕ
kind_of_two f x = cond (eqb f 15) 22 x

-- frames from 29 on have the kind of their node
unfoldable pub Kinded : Frame → Type 0
Kinded (frame f (amount n)) = f < 29
Kinded (frame f (kind k)) = Unit {0}

-- the frame F, as two arrays have it, may be closed over the nodes ns
pub record Closable (F : Frame) (f x : ℕ) (ns : List Node) : Type 0 where
  pub tag_is : tag_of F ≡ f
  pub figure_is : figure_of F ≡ x
  pub kinded : Kinded F
  pub closes : closes f ≡ true
  pub more : ℕ
  pub enough : length ns ≡ suc (waiting_in F + more)

-- the nodes that are held, and the frame
pub record Over (Ns : Nodes) (f x : ℕ) : Type 0 where
  pub nodes : List Node
  pub held : Held nodes Ns
  pub frame : Frame
  pub closable : Closable frame f x nodes

pub record Closing (Ns : Nodes) (f x : ℕ) : Type 0 where
  pub most : Ns.count ≤ 1025
  pub some : Ns.count ≤ 1024 → Over Ns f x

pub record Closed (Ns : Nodes) (f x : ℕ) (Ns₂ : Nodes) : Type 0 where
  pub become : (F : Frame) (ns : List Node) → Closable F f x ns → Become ns (closing F ns) Ns Ns₂
  pub kept : Kept Ns Ns₂

-- ---- frames one after the other

unfoldable pub figures : List Frame → List ℕ
figures [] = []
figures (f ∷ fs) = figure_of f ∷ figures fs

unfoldable pub AllKinded : List Frame → Type 0
AllKinded [] = Unit {0}
AllKinded (f ∷ fs) = Kinded f × AllKinded fs

-- the innermost m of the frames fs are closed
unfoldable pub closings : ℕ → List Frame → List Node → List Node
closings zero fs ns = ns
closings (suc m) [] ns = ns
closings (suc m) (f ∷ fs) ns = closings m fs (closing f ns)

-- the frames fs stand in two arrays up to `top`, over the nodes ns
pub record Frames (fs : List Frame) (K : Stack) (top : ℕ) (ns : List Node) : Type 0 where
  pub tags_are : tags fs ≡ stack K.tags top
  pub figures_are : figures fs ≡ stack K.figures top
  pub kinded : AllKinded fs
  pub enough : length ns ≡ suc (waiting_all fs)

pub record AllOver (Ns : Nodes) (K : Stack) (top to : ℕ) : Type 0 where
  pub nodes : List Node
  pub held : Held nodes Ns
  pub frames : List Frame
  pub stands : Frames frames K top nodes
  pub closes : (i : ℕ) → to ≤ i → i < top → closes (get_or K.tags i 0) ≡ true

pub record Descending (Ns : Nodes) (K : Stack) (top to : ℕ) : Type 0 where
  pub most : Ns.count ≤ 1025
  pub fits : top ≤ 1600
  pub some : Ns.count ≤ 1024 → AllOver Ns K top to

pub record Descended (Ns : Nodes) (K : Stack) (top to : ℕ) (Ns₂ : Nodes) : Type 0 where
  pub become : (fs : List Frame) (ns : List Node) → Frames fs K top ns
      → ((i : ℕ) → to ≤ i → i < top → closes (get_or K.tags i 0) ≡ true)
      → Become ns (closings (top - to) fs ns) Ns Ns₂
  pub kept : Kept Ns Ns₂
