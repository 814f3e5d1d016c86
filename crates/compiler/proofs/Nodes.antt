-- A statement node read by its words: its statement in terms of its children's, and where their code fits within its own.
use mathlib.Core.Path.{◌≡◌, refl, ap, sym, ◌∙◌}
use mathlib.Core.List.{List}
use Prim.Native.Nat.{ℕ, ◌+◌, ◌*◌, ◌<◌, ◌≤◌}
use native.Mathlib.Omega.{arith}
use lib.ListN.{length}
use Rattle.rules.specs.Lists.{fetch}
use Rattle.rules.specs.While.{Stm}
use Rattle.rules.specs.Compilation.{size}
use Rattle.rules.specs.CodeWords.{width}
use Rattle.rules.specs.Table.{nodes, Kind, skip, assign, sequence, if, while, kind_of, row_of, statement, tree_by}
use Rattle.rules.proofs.KindLaws.{statement_range}
use Rattle.rules.proofs.TableLaws.{Child, NodeAs, NodeFits, node_as, Facts, accepted_facts, stm_as}
use Rattle.compiler.specs.inside.Writing.{Words, stm_at, Fits}

-- a node that was read is as its kind says
words_as : {t : List ℕ} {n w p q r : ℕ} → NodeFits t n → Words t n w p q r → (k : Kind) → kind_of w ≡ k → NodeAs t n k p q r
words_as f w k e = rw (w.is_p, w.is_q, w.is_r) (node_as f k (ap kind_of (sym w.is_kind) ∙ e))

-- a child statement and the instruction from which its code fits
pub record Part (t : List ℕ) (n p start room i : ℕ) : Type 0 where
  pub below : p < n
  pub fits : Fits t p start room i

-- the code of node n, as the statement s, fits
pub record Sized (t : List ℕ) (n start room i : ℕ) (s : Stm) : Type 0 where
  pub stm : stm_at t n ≡ s
  pub labels : start + (i + size s) ≤ 65535
  pub words : width * (i + size s) ≤ room

pub record SequenceAt (t : List ℕ) (n start room i p q : ℕ) : Type 0 where
  pub sized : Sized t n start room i (Stm.seq (stm_at t p) (stm_at t q))
  pub first : Part t n p start room i
  pub second : (m : ℕ) → m ≡ i + size (stm_at t p) → (start' : ℕ) → start' ≡ start → (room' : ℕ) → room' ≡ room → Part t n q start' room' m

pub record IfAt (t : List ℕ) (n start room i b p q : ℕ) : Type 0 where
  pub sized : Sized t n start room i (Stm.if b (stm_at t p) (stm_at t q))
  pub then_branch : Part t n p start room (i + 1)
  pub else_branch : (m : ℕ) → m ≡ i + 1 + size (stm_at t p) → (start' : ℕ) → start' ≡ start → (room' : ℕ) → room' ≡ room
      → Part t n q start' room' (m + 1)

pub record WhileAt (t : List ℕ) (n start room i b p : ℕ) : Type 0 where
  pub sized : Sized t n start room i (Stm.while b (stm_at t p))
  pub body : Part t n p start room (i + 1)

module _ {t : List ℕ} {n start room i : ℕ} (f : Fits t n start room i) where
  facts : Facts t
  facts = accepted_facts t f.accepted

  pub in_table : (4 * n + 4 ≤ length t) × (length t ≤ 4096)
  in_table = let l : n < nodes t = f.inside in (omega (arith, facts.whole), omega (arith, facts.whole, facts.few))

  sized_as : (s : Stm) → stm_at t n ≡ s → Sized t n start room i s
  sized_as s e = record { stm = e; labels = rw (← e) f.labels; words = rw (← e) f.words }

  part_at : (p j start' room' : ℕ) → Child t n statement p → start' ≡ start → room' ≡ room → j + size (stm_at t p) ≤ i + size (stm_at t n)
      → Part t n p start' room' j
  part_at p j start' room' c s e h =
      let l : p < n = c.below in
      let in_all : n < nodes t = f.inside in
      record {
        below = l;
        fits = record {
          accepted = f.accepted;
          inside = omega arith;
          class = c.class;
          labels = omega (arith, f.labels);
          words = omega (arith, f.words);
        };
      }

  module _ {w p q r : ℕ} (ws : Words t n w p q r) where
    node_is : (k : Kind) → kind_of w ≡ k → NodeAs t n k p q r
    node_is k e = words_as (facts.node n f.inside) ws k e

    pub assign_at : w ≡ 33 → Sized t n start room i (Stm.assign p q)
    unfolding kind_of fetch tree_by
    assign_at e = sized_as _ (stm_as (node_is assign (ap kind_of e)))

    pub sequence_at : w ≡ 34 → SequenceAt t n start room i p q
    unfolding kind_of fetch tree_by row_of size
    sequence_at e =
        let v = node_is sequence (ap kind_of e) in
        let s : Sized t n start room i (Stm.seq (stm_at t p) (stm_at t q)) = sized_as _ (stm_as v) in
        let z : size (stm_at t n) ≡ size (stm_at t p) + size (stm_at t q) = ap size s.stm in
        record {
          sized = s;
          first = part_at p i start room v.first refl refl (omega arith);
          second = λ m h start' l room' k. part_at q m start' room' v.second l k (omega arith);
        }

    pub if_at : w ≡ 35 → IfAt t n start room i p q r
    unfolding kind_of fetch tree_by row_of size
    if_at e =
        let v = node_is if (ap kind_of e) in
        let s : Sized t n start room i (Stm.if p (stm_at t q) (stm_at t r)) = sized_as _ (stm_as v) in
        let z : size (stm_at t n) ≡ size (stm_at t q) + size (stm_at t r) + 2 = ap size s.stm in
        record {
          sized = s;
          then_branch = part_at q (i + 1) start room v.second refl refl (omega arith);
          else_branch = λ m h start' l room' k. part_at r (m + 1) start' room' v.third l k (omega arith);
        }

    pub while_at : w ≡ 36 → WhileAt t n start room i p q
    unfolding kind_of fetch tree_by row_of size
    while_at e =
        let v = node_is while (ap kind_of e) in
        let s : Sized t n start room i (Stm.while p (stm_at t q)) = sized_as _ (stm_as v) in
        let z : size (stm_at t n) ≡ size (stm_at t q) + 2 = ap size s.stm in
        record { sized = s; body = part_at q (i + 1) start room v.second refl refl (omega arith) }

    pub skip_at : (w ≡ 33 → ⊥) → (w ≡ 34 → ⊥) → (w ≡ 35 → ⊥) → (w ≡ 36 → ⊥) → stm_at t n ≡ Stm.skip
    unfolding kind_of fetch tree_by
    skip_at a b c d =
        let g = statement_range w (ap (λ (k : ℕ). (row_of (kind_of k)).class) ws.is_kind ∙ f.class) in
        let e : w ≡ 32 = omega (arith, g.0, g.1) in
        stm_as (node_is skip (ap kind_of e))
