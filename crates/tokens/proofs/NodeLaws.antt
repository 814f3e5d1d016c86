-- There are as many nodes as the frames wait with, so that a node is made of nodes that are there; and nodes only ever grow in number.
use mathlib.Core.Path.{◌≡◌, refl, sym, ap, ◌∙◌}
use Prim.Native.Nat.{ℕ, zero, suc, ◌+◌, ◌*◌, ◌-◌, ◌≤◌, ◌<◌}
use mathlib.Core.Bool.{Bool, true, false, ◌||◌, cond}
use mathlib.Core.List.{List, [], ◌∷◌}
use native.Mathlib.Omega.{arith}
use lib.Dec.{eqb, ltb, leb, lit<}
use lib.ListN.{length, get_or}
use borrow.Author.Tests.{eqb-true, eqb-false, eq-eqb, ne_eqb, ltb-true, ltb-false, lt-ltb, le-ltb, leb-true}
use Rattle.rules.specs.Lists.{every}
use Rattle.rules.specs.Table
use Rattle.rules.specs.Table.{Kind, negation, both, assign, sequence}
use Rattle.rules.proofs.ListLaws.{every_true}
use Rattle.grammar.specs.Written.{Node, size, size_below}
use Rattle.grammar.specs.machine.Reader.{Phrase, Open, State, want_statement, want_becomes, want_part, want_test, want_factor}
use Rattle.grammar.specs.machine.Reader.{want_open, have}
use Rattle.grammar.specs.Token.{Token, rank}
use Rattle.grammar.specs.machine.Reader.{step}
use mathlib.Core.Option.{some}
use Rattle.tokens.proofs.Steps.{tokens, step_moves}
use Rattle.tokens.specs.Tables.{acts, moves}
use Rattle.tokens.specs.Flat.{act, move_at, Form, no_node, leaf, one, two, three, numbered, form_of, make, arity, sizes}
use Rattle.tokens.specs.Flat.{sequences, Figure, figure_number, figure_kind}
use Rattle.tokens.specs.Flat.{Frame, frame, tag_of, closing, closes, waiting_in, waiting_all, Flat, flat, frames_of, nodes_of}
use Rattle.tokens.specs.Flat.{at_hand, Found, found, seek_by, seek, row_of, left_of, locate, perform, perform_if, performed}
use Rattle.tokens.specs.Flat.{moved}
use Rattle.tokens.specs.Stand.{kind_of, sign_kind, relation_kind, truth_kind, figure, node_of, earlier, waiting, frames, kept}
use Rattle.tokens.specs.Stand.{flat_of, flat_if}

-- ---- a test that every entry of the table of moves passes

unfoldable implies : Bool → Bool → Bool
implies true b = b
implies false b = true

pub past_end : (l : List ℕ) (i : ℕ) → length l ≤ i → get_or l i 0 ≡ 0
past_end [] i h = refl
past_end (x ∷ l) zero h = absurd (omega arith)
past_end (x ∷ l) (suc i) h = past_end l i (omega arith)

beyond : (f k : ℕ) → 32 ≤ f → act f k ≡ 0
unfolding act acts
beyond f k h = past_end acts (32 * f + k) (omega arith)

everywhere : (test : ℕ → ℕ → Bool) → every (λ f. every (test f) 32) 32 ≡ true → (f k : ℕ) → f < 32 → k < 32 → test f k ≡ true
everywhere test e f k h l = every_true (test f) 32 (every_true (λ f. every (test f) 32) 32 e f h) k l

-- a frame that lets a token pass is one that may be complete
passing : (f k : ℕ) → f < 32 → k < 32 → implies (eqb (act f k) 1) (closes f) ≡ true
unfolding every implies closes act acts
passing = everywhere (λ f k. implies (eqb (act f k) 1) (closes f)) refl

pub passes : (f k : ℕ) → k < 32 → act f k ≡ 1 → closes f ≡ true
unfolding implies
passes f k l a = by (ltb f 32) refl
  where
    by : (b : Bool) → ltb f 32 ≡ b → closes f ≡ true
    by true e = rw (eq-eqb (act f k) 1 a, implies) at (passing f k (ltb-true f 32 e) l)
    by false e = let z = beyond f k (ltb-false f 32 e) in absurd (omega arith)

-- ---- a frame is closed

-- the frames that may be complete, by name
pub data Closes : ℕ → Type 0 where
  both_parts : Closes 15
  row : Closes 19
  negated : Closes 25
  alone : Closes 27
  assignment : Closes 28
  operation : (j : ℕ) → Closes (29 + j)

pub closes_as : (f : ℕ) → closes f ≡ true → Closes f
unfolding closes
closes_as f e = by_15 (eqb f 15) refl e
  where
    above : (n : ℕ) → ltb 26 n ≡ true → Closes n
    above n h = go (eqb n 27) refl
      where
        go : (b : Bool) → eqb n 27 ≡ b → Closes n
        go true e = let z : n ≡ 27 = eqb-true n 27 e in rw z alone
        go false e = again (eqb n 28) refl
          where
            again : (c : Bool) → eqb n 28 ≡ c → Closes n
            again true d = let z : n ≡ 28 = eqb-true n 28 d in rw z assignment
            again false d =
                let l = ltb-true 26 n h in
                let x = eqb-false n 27 e in
                let y = eqb-false n 28 d in
                let z : 29 + (n - 29) ≡ n = omega arith in
                rw z at (operation (n - 29))

    by_25 : (b : Bool) → eqb f 25 ≡ b → (b || ltb 26 f) ≡ true → Closes f
    by_25 true q h = let z : f ≡ 25 = eqb-true f 25 q in rw z negated
    by_25 false q h = above f h

    by_19 : (b : Bool) → eqb f 19 ≡ b → (b || (eqb f 25 || ltb 26 f)) ≡ true → Closes f
    by_19 true q h = let z : f ≡ 19 = eqb-true f 19 q in rw z row
    by_19 false q h = by_25 (eqb f 25) refl h

    by_15 : (b : Bool) → eqb f 15 ≡ b → (b || (eqb f 19 || (eqb f 25 || ltb 26 f))) ≡ true → Closes f
    by_15 true q h = let z : f ≡ 15 = eqb-true f 15 q in rw z both_parts
    by_15 false q h = by_19 (eqb f 19) refl h

-- what making a node does to how many there are
pub record Grown (before after : List Node) (fewer : ℕ) : Type 0 where
  pub length_is : length after + fewer ≡ length before
  pub size_most : sizes before ≤ sizes after

-- there is a node more in all, where one is made
unfoldable pub adds : Form → ℕ
adds no_node = 0
adds leaf = 1
adds one = 1
adds two = 1
adds three = 1
adds numbered = 1

pub make_size : (form : Form) (k : Kind) (x : ℕ) (ns : List Node) → arity form ≤ length ns
    → sizes (make form k x ns) ≡ adds form + sizes ns
unfolding make arity sizes size size_below adds
make_size no_node k x ns h = omega arith
make_size leaf k x ns h = omega arith
make_size one k x [] h = absurd (omega arith)
make_size one k x (a ∷ ns) h = omega arith
make_size two k x [] h = absurd (omega arith)
make_size two k x (b ∷ []) h = absurd (omega arith)
make_size two k x (b ∷ a ∷ ns) h = omega arith
make_size three k x [] h = absurd (omega arith)
make_size three k x (c ∷ []) h = absurd (omega arith)
make_size three k x (c ∷ b ∷ []) h = absurd (omega arith)
make_size three k x (c ∷ b ∷ a ∷ ns) h = omega arith
make_size numbered k x [] h = absurd (omega arith)
make_size numbered k x (a ∷ ns) h = omega arith

pub make_length : (form : Form) (k : Kind) (x : ℕ) (ns : List Node) → arity form ≤ length ns
    → length (make form k x ns) + arity form ≡ adds form + length ns
unfolding make arity adds
make_length no_node k x ns h = omega arith
make_length leaf k x ns h = omega arith
make_length one k x [] h = absurd (omega arith)
make_length one k x (a ∷ ns) h = omega arith
make_length two k x [] h = absurd (omega arith)
make_length two k x (b ∷ []) h = absurd (omega arith)
make_length two k x (b ∷ a ∷ ns) h = omega arith
make_length three k x [] h = absurd (omega arith)
make_length three k x (c ∷ []) h = absurd (omega arith)
make_length three k x (c ∷ b ∷ []) h = absurd (omega arith)
make_length three k x (c ∷ b ∷ a ∷ ns) h = omega arith
make_length numbered k x [] h = absurd (omega arith)
make_length numbered k x (a ∷ ns) h = omega arith

pub make_grown : (form : Form) (k : Kind) (x : ℕ) (ns : List Node) (m : ℕ) → arity form ≤ length ns → arity form ≡ adds form + m
    → Grown ns (make form k x ns) m
make_grown form k x ns m h p =
    let s = make_size form k x ns h in
    let l = make_length form k x ns h in
    record { length_is = omega arith; size_most = omega arith }

pub sequences_grown : (k : ℕ) (ns : List Node) → k < length ns → Grown ns (sequences k ns) k
unfolding sequences arity adds
sequences_grown zero ns h = record { length_is = omega arith; size_most = omega arith }
sequences_grown (suc k) ns h =
    let a = make_grown two sequence 0 ns 1 (omega arith) refl in
    let l = a.length_is in
    let b = sequences_grown k (make two sequence 0 ns) (omega arith) in
    let m = b.length_is in
    let s = a.size_most in
    let t = b.size_most in
    record { length_is = omega arith; size_most = omega arith }

-- an operation makes its node of two, of which one waits
pub operation_closing : (j : ℕ) (x : Figure) (ns : List Node) → closing (frame (29 + j) x) ns ≡ make two (figure_kind x) 0 ns
unfolding closing
operation_closing j x ns =
    rw (ne_eqb (29 + j) 15 (λ q. omega arith), ne_eqb (29 + j) 19 (λ q. omega arith), ne_eqb (29 + j) 25 (λ q. omega arith))
    (rw (ne_eqb (29 + j) 27 (λ q. omega arith), ne_eqb (29 + j) 28 (λ q. omega arith)))

pub operation_waits : (j : ℕ) (x : Figure) → waiting_in (frame (29 + j) x) ≡ 1
unfolding waiting_in
operation_waits j x =
    rw (ne_eqb (29 + j) 19 (λ q. omega arith), le-ltb (29 + j) 17 (omega arith), le-ltb (29 + j) 19 (omega arith))
    (rw (lt-ltb 28 (29 + j) (omega arith)))

operation_grown : (j : ℕ) (x : Figure) (ns : List Node) (m : ℕ) → length ns ≡ suc (waiting_in (frame (29 + j) x) + m)
    → Grown ns (closing (frame (29 + j) x) ns) (waiting_in (frame (29 + j) x))
unfolding arity adds
operation_grown j x ns m e =
    let w = operation_waits j x in
    rw (operation_closing j x ns, w) (make_grown two (figure_kind x) 0 ns 1 (omega arith) refl)

closing_by : {f : ℕ} → Closes f → (x : Figure) (ns : List Node) (m : ℕ) → length ns ≡ suc (waiting_in (frame f x) + m)
    → Grown ns (closing (frame f x) ns) (waiting_in (frame f x))
unfolding closing waiting_in arity adds
closing_by both_parts x ns m e = make_grown two both 0 ns 1 (omega arith) refl
closing_by row x ns m e = sequences_grown (figure_number x) ns (omega arith)
closing_by negated x ns m e = make_grown one negation 0 ns 0 (omega arith) refl
closing_by alone x ns m e = record { length_is = omega arith; size_most = omega arith }
closing_by assignment x ns m e = make_grown numbered assign (figure_number x) ns 0 (omega arith) refl
closing_by (operation j) x ns m e = operation_grown j x ns m e

pub closing_grown : (f : Frame) (ns : List Node) (m : ℕ) → closes (tag_of f) ≡ true → length ns ≡ suc (waiting_in f + m)
    → Grown ns (closing f ns) (waiting_in f)
unfolding tag_of
closing_grown (frame f x) ns m c e = closing_by (closes_as f c) x ns m e

-- ---- a move's node is made of nodes that are there

-- of a row of the table: how many nodes there are at least where it moves
unfoldable least : ℕ → ℕ
least f = cond (ltb f 13) 0 (cond (ltb f 17) 2 (cond (ltb f 19) 3 1))

needs_least : (f k : ℕ) → f < 32 → k < 32 → leb (arity (form_of (move_at (act f k) 8))) (least f) ≡ true
unfolding every arity form_of least move_at moves act acts
needs_least = everywhere (λ f k. leb (arity (form_of (move_at (act f k) 8))) (least f)) refl

move_needs : (f k : ℕ) → k < 32 → arity (form_of (move_at (act f k) 8)) ≤ least f
unfolding move_at moves form_of arity
move_needs f k l = by (ltb f 32) refl
  where
    by : (b : Bool) → ltb f 32 ≡ b → arity (form_of (move_at (act f k) 8)) ≤ least f
    by true e = leb-true _ _ (needs_least f k (ltb-true f 32 e) l)
    by false e = let z = beyond f k (ltb-false f 32 e) in rw z (omega arith)

frame_least : (f : ℕ) (x : Figure) → least f ≤ suc (waiting_in (frame f x))
unfolding least waiting_in
frame_least f x = by (ltb f 13) (ltb f 17) (ltb f 19) (eqb f 19) refl refl refl refl
  where
    by : (a b c d : Bool) → ltb f 13 ≡ a → ltb f 17 ≡ b → ltb f 19 ≡ c → eqb f 19 ≡ d
        → cond a 0 (cond b 2 (cond c 3 1)) ≤ suc (cond d (figure_number x) (cond b 1 (cond c 2 (cond (ltb 28 f) 1 0))))
    by true b c d e g h i = omega arith
    by false true c true e g h i = let l = ltb-true f 17 g in let z = eqb-true f 19 i in absurd (omega arith)
    by false true c false e g h i = omega arith
    by false false true true e g h i = let l = ltb-true f 19 h in let z = eqb-true f 19 i in absurd (omega arith)
    by false false true false e g h i = omega arith
    by false false false d e g h i = omega arith

module _ {limit : ℕ} where
  -- ---- the nodes of a state

  kept_length : {h : Phrase} {n : ℕ} (K : Open limit h n) → length (kept K) ≡ waiting h K + waiting_all (frames K)
  unfolding kept frames waiting earlier waiting_all waiting_in figure_number
  kept_length Open.whole = refl
  kept_length (Open.follow s K) = let m = kept_length K in omega arith
  kept_length (Open.then_branch b K) = let m = kept_length K in omega arith
  kept_length (Open.else_branch b p K) = let m = kept_length K in omega arith
  kept_length (Open.loop_body b K) = let m = kept_length K in omega arith
  kept_length (Open.in_row K) = let m = kept_length K in omega arith
  kept_length (Open.if_test K) = let m = kept_length K in omega arith
  kept_length (Open.while_test K) = let m = kept_length K in omega arith
  kept_length (Open.squared K) = let m = kept_length K in omega arith
  kept_length (Open.choose_test K) = let m = kept_length K in omega arith
  kept_length (Open.first_part K) = let m = kept_length K in omega arith
  kept_length (Open.next_part b K) = let m = kept_length K in omega arith
  kept_length (Open.plain K) = let m = kept_length K in omega arith
  kept_length (Open.negated K) = let m = kept_length K in omega arith
  kept_length (Open.assigning x K) = let m = kept_length K in omega arith
  kept_length (Open.left_side K) = let m = kept_length K in omega arith
  kept_length (Open.right_side o a K) = let m = kept_length K in omega arith
  kept_length (Open.bracketed K) = let m = kept_length K in omega arith
  kept_length (Open.choose_first b K) = let m = kept_length K in omega arith
  kept_length (Open.choose_second b x K) = let m = kept_length K in omega arith
  kept_length (Open.first_term K) = let m = kept_length K in omega arith
  kept_length (Open.next_term o a K) = let m = kept_length K in omega arith
  kept_length (Open.first_factor K) = let m = kept_length K in omega arith
  kept_length (Open.next_factor o a K) = let m = kept_length K in omega arith

  -- as many nodes as the frames wait with, and the one at hand
  pub nodes_length : (S : State limit) → length (nodes_of (flat_of S)) ≡ at_hand (flat_of S) + waiting_all (frames_of (flat_of S))
  unfolding flat_of nodes_of frames_of at_hand waiting waiting_all waiting_in
  nodes_length (want_statement n K) = kept_length K
  nodes_length (want_becomes n x K) = let m = kept_length K in omega arith
  nodes_length (want_part n K) = kept_length K
  nodes_length (want_test n K) = kept_length K
  nodes_length (want_factor n K) = kept_length K
  nodes_length (want_open n K) = kept_length K
  nodes_length (have h n K v) =
      let m = kept_length K in
      let g = (sequences_grown (waiting h K) (node_of h v ∷ kept K) (omega arith)).length_is in
      omega arith

-- ---- what is found

none_made : arity (form_of (move_at 0 8)) ≡ 0
unfolding arity form_of move_at moves
none_made = refl

-- where a move is found there are the nodes that its own is made of, and no fewer in all
pub record Roomy (a : ℕ) (ns ms : List Node) : Type 0 where
  pub parts : arity (form_of (move_at a 8)) ≤ length ms
  pub size_most : sizes ns ≤ sizes ms

unfoldable RoomyIn : List Node → Found → Type 0
RoomyIn ns (found a gs ms) = Roomy a ns ms

roomy_from : (ns ns₂ : List Node) (f : Found) → sizes ns ≤ sizes ns₂ → RoomyIn ns₂ f → RoomyIn ns f
unfolding RoomyIn
roomy_from ns ns₂ (found a gs ms) h r = let m = r.size_most in record { parts = r.parts; size_most = omega arith }

-- a frame that moves, or one that is closed
here_roomy : (k : ℕ) → k < 32 → (f : Frame) (fs : List Frame) (ns : List Node) → length ns ≡ suc (waiting_all (f ∷ fs))
    → Roomy (act (tag_of f) k) ns ns
unfolding waiting_all tag_of
here_roomy k l (frame f x) fs ns e =
    let a = move_needs f k l in
    let b = frame_least f x in
    record { parts = omega arith; size_most = omega arith }

closed_length : (f : Frame) (fs : List Frame) (ns : List Node) → closes (tag_of f) ≡ true → length ns ≡ suc (waiting_all (f ∷ fs))
    → (length (closing f ns) ≡ suc (waiting_all fs)) × (sizes ns ≤ sizes (closing f ns))
unfolding waiting_all
closed_length f fs ns c e =
    let g = closing_grown f ns (waiting_all fs) c e in
    let l = g.length_is in
    (omega arith, g.size_most)

seek_roomy : (k : ℕ) → k < 32 → (fs : List Frame) (ns : List Node) → length ns ≡ suc (waiting_all fs) → RoomyIn ns (seek k fs ns)
unfolding RoomyIn seek seek_by waiting_all
seek_roomy k l [] ns e = record { parts = rw none_made (omega arith); size_most = omega arith }
seek_roomy k l (f ∷ fs) ns e = by (eqb (act (tag_of f) k) 1) refl (λ d. seek_roomy k l fs (closing f ns) d)
  where
    by : (b : Bool) → eqb (act (tag_of f) k) 1 ≡ b
        → (length (closing f ns) ≡ suc (waiting_all fs) → RoomyIn (closing f ns) (seek k fs (closing f ns)))
        → RoomyIn ns (seek_by b (found (act (tag_of f) k) (f ∷ fs) ns) (seek k fs (closing f ns)))
    by true q later =
        let c = closed_length f fs ns (passes (tag_of f) k l (eqb-true _ _ q)) e in
        roomy_from ns (closing f ns) (seek k fs (closing f ns)) c.1 (later c.0)
    by false q later = here_roomy k l f fs ns e

row_least : (mode left : ℕ) → mode < 6 → least (row_of mode left) ≡ 0
unfolding least row_of
row_least mode zero h = rw (lt-ltb (mode + 7) 13 (omega arith))
row_least mode (suc n) h = rw (lt-ltb mode 13 (omega arith))

want_roomy : (mode left k : ℕ) (fs : List Frame) (ns : List Node) → mode < 6 → k < 32
    → RoomyIn ns (locate (flat mode left fs ns) k)
unfolding RoomyIn locate seek_by
want_roomy mode left k fs ns h l =
    let z = ne_eqb mode 6 (λ e. omega arith) in
    let a = move_needs (row_of mode left) k l in
    let b = row_least mode left h in
    rw z (record { parts = omega arith; size_most = omega arith })

have_roomy : (left k : ℕ) (fs : List Frame) (ns : List Node) → k < 32 → length ns ≡ 1 + waiting_all fs
    → RoomyIn ns (locate (flat 6 left fs ns) k)
unfolding locate seek_by
have_roomy left k fs ns l e = seek_roomy k l fs ns (omega arith)

pub kind_few : (t : Token) → kind_of t < 32
unfolding kind_of rank sign_kind relation_kind truth_kind
kind_few =
    tokens (λ t. kind_of t < 32)
    (λ k. lit< tt) (λ x. lit< tt) (lit< tt) (lit< tt) (lit< tt) (lit< tt) (lit< tt) (lit< tt) (lit< tt) (lit< tt) (lit< tt)
    (lit< tt) (lit< tt)
    (lit< tt) (lit< tt) (lit< tt) (lit< tt) (lit< tt) (lit< tt) (lit< tt) (lit< tt) (lit< tt) (lit< tt) (lit< tt) (lit< tt)
    (lit< tt) (lit< tt)
    (lit< tt) (lit< tt)

performed_is : (b : Bool) {F G : Flat} → some F ≡ perform_if b G → F ≡ G
unfolding perform_if
performed_is true e = let z : ◌≡◌ {A = ℕ} 0 1 = cc in absurd (omega arith)
performed_is false e = cc

module _ {limit : ℕ} where
  roomy : (S : State limit) (k : ℕ) → k < 32 → length (nodes_of (flat_of S)) ≡ at_hand (flat_of S) + waiting_all (frames_of (flat_of S))
      → RoomyIn (nodes_of (flat_of S)) (locate (flat_of S) k)
  unfolding flat_of nodes_of frames_of at_hand
  roomy (want_statement n K) k l e = want_roomy 0 n k _ _ (lit< tt) l
  roomy (want_becomes n x K) k l e = want_roomy 1 n k _ _ (lit< tt) l
  roomy (want_part n K) k l e = want_roomy 2 n k _ _ (lit< tt) l
  roomy (want_test n K) k l e = want_roomy 3 n k _ _ (lit< tt) l
  roomy (want_factor n K) k l e = want_roomy 4 n k _ _ (lit< tt) l
  roomy (want_open n K) k l e = want_roomy 5 n k _ _ (lit< tt) l
  roomy (have h n K v) k l e = have_roomy n k _ _ l e

  pub found_roomy : (S : State limit) (k : ℕ) → k < 32 → {a : ℕ} {gs : List Frame} {ms : List Node}
      → locate (flat_of S) k ≡ found a gs ms
      → Roomy a (nodes_of (flat_of S)) ms
  unfolding RoomyIn
  found_roomy S k l e = rw e at (roomy S k l (nodes_length S))

  -- nodes only ever grow in number
  pub step_grows : (S : State limit) (t : Token) {R : State limit} → step S t ≡ some R
      → sizes (nodes_of (flat_of S)) ≤ sizes (nodes_of (flat_of R))
  unfolding flat_if moved performed perform nodes_of
  step_grows S t {R} e = by (locate (flat_of S) (kind_of t)) refl (ap flat_if (sym e) ∙ step_moves S t)
    where
      by : (f : Found) → locate (flat_of S) (kind_of t) ≡ f → flat_if (some R) ≡ performed (left_of (flat_of S)) (figure t) f
          → sizes (nodes_of (flat_of S)) ≤ sizes (nodes_of (flat_of R))
      by (found a gs ms) q m =
          let r = found_roomy S (kind_of t) (kind_few t) q in
          let s = r.size_most in
          let n = ap (λ (F : Flat). sizes (nodes_of F)) (performed_is (eqb a 0) m) in
          let g = make_size (form_of (move_at a 8)) (Table.kind_of (move_at a 9)) (figure_number (figure t)) ms r.parts in
          omega arith
