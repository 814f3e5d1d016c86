-- A state of the machine as arrays hold it, and what a token does to them.
use Rattle.std.specs.Prelude.{◌≡◌, ℕ, ◌+◌, ◌-◌, ◌*◌, ◌<◌, ◌≤◌, true, false, List, [], ◌∷◌, eqb, length, get_or, take, drop, Result, Ok, Err}
use Rattle.std.proofs.Math.Option.{none, some}
use Rattle.rules.specs.Refusal.{refusal}
use Rattle.rules.specs.declared.Refusal.{Refusal}
use Rattle.rules.specs.Table.{Kind, table_refusal}
use Rattle.grammar.specs.Rule.{Rule}
use Rattle.grammar.specs.Spelling.{is_blank}
use Rattle.grammar.specs.machine.Bytes.{Pending, spot, read_text, taken_of}
use Rattle.grammar.specs.machine.Answer.{typed_refusal}
use Rattle.grammar.proofs.bytes.TokenLaw.{Same}
use Rattle.grammar.specs.Token.{Token}
use Rattle.grammar.specs.Grammar.{nesting}
use Rattle.grammar.specs.machine.Reader.{State, start}
use Rattle.tokens.specs.declared.moves.Place.{Place}
use Rattle.tokens.specs.declared.moves.Stack.{Stack}
use Rattle.tokens.specs.declared.moves.Standing.{Standing}
use Rattle.grammar.specs.Written.{Node, kind_number, size, rule_node, table_of}
use Rattle.tokens.specs.Flat.{move_at, form_of, make, arity, sizes, figure_number, Frame, closes, frames_of, nodes_of}
use Rattle.tokens.specs.Stand.{kind_of, figure, flat_of}
use Rattle.tokens.specs.Shape.{shape_of, complete}
use Rattle.tokens.specs.Arrays.{stack, standing, Located, Entered}
use Rattle.tokens.specs.Scan.{TokenAt, StuckAt}
use Rattle.rule.specs.declared.nodes.Nodes.{Nodes}
use Rattle.rule.specs.declared.turns.Next.{Next}
use Rattle.rule.specs.inside.Nodes.{Held, Making, Made, Become, Kept, figures, closings, Frames, Descending}

-- the arrays hold the state: its frames always, their figures and the nodes as long as there are not too many
pub record Stands (S : State nesting) (K : Stack) (Ns : Nodes) (s : Standing) : Type 0 where
  pub shaped : shape_of S ≡ standing K.tags s
  pub figured : Ns.count ≤ 1024 → figures (frames_of (flat_of S)) ≡ stack K.figures s.top
  pub held : Ns.count ≤ 1024 → Held (nodes_of (flat_of S)) Ns
  pub crowded : 1024 < Ns.count → 1024 < sizes (nodes_of (flat_of S))
  pub most : Ns.count ≤ 1025

-- frames from `top` down to `to` may be closed; where `top` is not above `to`, none is
pub record Lowering (K : Stack) (Ns : Nodes) (top to : ℕ) : Type 0 where
  pub most : Ns.count ≤ 1025
  pub descends : to < top → Descending Ns K top to

pub record Lowered (K : Stack) (Ns : Nodes) (top to : ℕ) (Ns₂ : Nodes) : Type 0 where
  pub become : (fs : List Frame) (ns : List Node) → (to < top → Frames fs K top ns)
      → ((i : ℕ) → to ≤ i → i < top → closes (get_or K.tags i 0) ≡ true)
      → Become ns (closings (top - to) fs ns) Ns Ns₂
  pub kept : Kept Ns Ns₂

-- the frames from `top` down to `to` and the nodes that they are closed over; the move `a` makes its node of what they leave
pub record Going (K : Stack) (Ns : Nodes) (top to a : ℕ) : Type 0 where
  pub frames : List Frame
  pub nodes : List Node
  pub held : Held nodes Ns
  pub stands : to < top → Frames frames K top nodes
  pub closes : (i : ℕ) → to ≤ i → i < top → closes (get_or K.tags i 0) ≡ true
  pub parts : arity (form_of (move_at a 8)) ≤ length (closings (top - to) frames nodes)

pub record Moving (K : Stack) (Ns : Nodes) (top to a : ℕ) : Type 0 where
  pub most : Ns.count ≤ 1025
  pub fits : top ≤ 1600
  pub goes : Ns.count ≤ 1024 → Going K Ns top to a

-- the nodes that closing and the move's own node make, or they are too many
pub record Grown (K : Stack) (Ns : Nodes) (top to a x : ℕ) (Ns₂ : Nodes) : Type 0 where
  pub become : (k : Kind) (fs : List Frame) (ns : List Node) → kind_number k ≡ move_at a 9
      → (to < top → Frames fs K top ns) → ((i : ℕ) → to ≤ i → i < top → closes (get_or K.tags i 0) ≡ true)
      → arity (form_of (move_at a 8)) ≤ length (closings (top - to) fs ns)
      → Become ns (make (form_of (move_at a 8)) k x (closings (top - to) fs ns)) Ns Ns₂
  pub kept : Kept Ns Ns₂

-- a move and the number of its token
pub record Performing (K : Stack) (Ns : Nodes) (left : ℕ) (p : Place) : Type 0 where
  pub making : Making Ns (form_of (move_at p.act 8))
  pub left_fits : left ≤ 256
  pub top_fits : p.top ≤ 1543

-- the move is made: its node, and the frames then
pub record Moved (K : Stack) (Ns : Nodes) (left : ℕ) (p : Place) (x : ℕ) (K₂ : Stack) (Ns₂ : Nodes) (s : Standing) : Type 0 where
  pub made : Made Ns (form_of (move_at p.act 8)) (move_at p.act 9) x Ns₂
  pub entered : Entered K.tags K.figures left p x K₂.tags K₂.figures s

-- ---- the text

-- what is left from `at` on has, from the state that the arrays hold, the reading and the place of the whole
pub record Reading (text : List ℕ) (at : ℕ) (K : Stack) (Ns : Nodes) (s : Standing) : Type 0 where
  pub state : State nesting
  pub stands : Stands state K Ns s
  pub same : Same (spot start Pending.nothing) text (spot state Pending.nothing) (drop at text)
  pub inside : at ≤ length text

-- the bytes from `from` up to r are blanks, and that at r is none
pub record Skipped (text : List ℕ) (from r : ℕ) : Type 0 where
  pub forth : from ≤ r
  pub within : from ≤ length text → r ≤ length text
  pub past : length text < from → r ≡ from
  pub blanks : (i : ℕ) → from ≤ i → i < r → is_blank (get_or text i 0) ≡ true
  pub stops : r < length text → is_blank (get_or text r 0) ≡ false

pub record BeforeTurn (text : List ℕ) (at : ℕ) (K : Stack) (Ns : Nodes) (s : Standing) : Type 0 where
  pub reading : Reading text at K Ns s
  pub no_blank : at < length text → is_blank (get_or text at 0) ≡ false
  pub small : at < 18446744073709551615

-- the text is read whole, and the arrays hold the node of what was typed
pub record Whole (text : List ℕ) (Ns : Nodes) : Type 0 where
  pub rule : Rule
  pub reads : read_text text ≡ some rule
  pub held : Ns.count ≤ 1024 → Held (rule_node rule ∷ []) Ns
  pub crowded : 1024 < Ns.count → 1024 < size (rule_node rule)
  pub most : Ns.count ≤ 1025

pub record AtNext (text : List ℕ) (at : ℕ) (s : Standing) : Type 0 where
  pub fits : s.top ≤ 1600
  pub no_blank : at < length text → is_blank (get_or text at 0) ≡ false
  pub small : at < 18446744073709551615

-- the end of the text, where nothing is left open
pub record AtEnd (st : List ℕ) (s : Standing) (at : ℕ) (n : Next) : Type 0 where
  pub over : (s.mode ≡ 6) × ((a : ℕ) × Located st s 29 a 0) × (n.end ≡ at + 1) × (n.place.act ≡ 0) × (n.place.top ≡ 0)

-- and where something is
pub record LeftOpen (st : List ℕ) (s : Standing) (at end : ℕ) : Type 0 where
  pub left_open : complete (standing st s) ≡ false
  pub end_is : end ≡ at

-- a token that may follow, or the end of the text
pub record NextIs (text : List ℕ) (at : ℕ) (st : List ℕ) (s : Standing) (n : Next) : Type 0 where
  pub token : at < length text → (t : Token) × (figure_number (figure t) ≡ n.number)
      × TokenAt text at (standing st s) t n.end × Located st s (kind_of t) n.place.act n.place.top × (eqb n.place.act 0 ≡ false)
  pub ends : length text ≤ at → AtEnd st s at n

-- neither
pub record NoneNext (text : List ℕ) (at : ℕ) (st : List ℕ) (s : Standing) (end : ℕ) : Type 0 where
  pub stuck : at < length text → StuckAt text at (standing st s) end
  pub ends : length text ≤ at → LeftOpen st s at end

-- a token is taken that ends at `end`, or the text is over
pub record Turned (text : List ℕ) (at : ℕ) (K : Stack) (Ns : Nodes) (s : Standing) (end : ℕ) : Type 0 where
  pub taken : at < length text → Reading text end K Ns s × (at < end)
  pub over : length text ≤ at → Whole text Ns × (end ≡ at + 1)

-- the text has no reading, and its longest beginning ends at `end`
pub record Stuck (text : List ℕ) (end : ℕ) : Type 0 where
  pub unread : read_text text ≡ none
  pub place : taken_of text ≡ end

-- no node is written yet
pub record NoNodes (Ns : Nodes) : Type 0 where
  pub none_there : Ns.depth ≡ 0
  pub none_written : Ns.count ≡ 0

-- ---- the end

-- refused, whatever the room
pub record Refuses (text : List ℕ) (r : Refusal) : Type 0 where
  pub is : (room : ℕ) → typed_refusal text room ≡ some r

-- or read, into words that are the table of what was typed
pub record Reached (text : List ℕ) (Ns : Nodes) (count : ℕ) : Type 0 where
  pub rule : Rule
  pub reads : read_text text ≡ some rule
  pub passes : table_refusal (table_of rule) ≡ none
  pub words_are : take (4 * count) Ns.words ≡ table_of rule
  pub amount : length (table_of rule) ≡ 4 * count
  pub few : count ≤ 1024

pub record Finished (Ns : Nodes) (r : Result ℕ Refusal) : Type 0 where
  pub too_many : 1024 < Ns.count → r ≡ Err (refusal 1 0)
  pub too_deep : Ns.count ≤ 1024 → 256 < get_or Ns.deep 0 0 → r ≡ Err (refusal 9 0)
  pub fits : Ns.count ≤ 1024 → get_or Ns.deep 0 0 ≤ 256 → r ≡ Ok Ns.count
