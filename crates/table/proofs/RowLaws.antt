-- The rows of the code are 01's, and its slots are told apart as 01's slots and classes are.
use Rattle.std.proofs.Common.{◌≡◌, ℕ, ◌+◌, ◌*◌, ◌<◌, ◌≤◌, Bool, true, false, not, List, [], eqb, ltb, get_or, refl, ap, sym, ◌∙◌, arith}
use Rattle.std.specs.Prelude.{map}
use Rattle.std.specs.List.{range_with_len}
use Rattle.std.proofs.lemmas.List.{get_or-map}
use Rattle.std.proofs.lemmas.List.FromFn.{get_or-map-range_with_len}
use denote.Enum.Bare.{sameb}
use borrow.Author.Tests.{ltb-true, ltb-false}
use Rattle.rules.specs.Lists.{fetch}
use Rattle.rules.specs.Refusal.{fine}
use Rattle.rules.specs.Table.{no_class, kind_of, row_of, row_at, Row, rank, is_class, child, child_in, word_fault, node_fault, unknown}
use Rattle.rules.proofs.KindLaws.{kind_past}
use Rattle.rules.proofs.TableLaws.{node_fits}
use Rattle.table.specs.declared.rows.TheConstants.{ROWS, NO_KIND}
use Rattle.table.specs.declared.rows.Slot.{Slot}
use Rattle.table.specs.declared.rows.Slot.TheVariants.{Arithmetic, Boolean, Statement, Unused, Any, Variable}
use Rattle.table.specs.declared.rows.Row.{Row as CodeRow}
use Rattle.table.specs.contracts.rows.Slot.{the_type}
use Rattle.table.specs.inside.Rows.{slot_in, is_child, class_in, row_in}

-- ---- rows

-- 01's row of a number
abbrev row_of_number : ℕ → Row
row_of_number k = row_of (kind_of k)

-- the rows that the code has, all 37 at once
rows_right : map row_in ROWS ≡ map row_of_number (range_with_len 0 37)
unfolding fetch kind_of row_of
rows_right = refl

pub row_right : (k : ℕ) (d : CodeRow) → k < 37 → row_in (get_or ROWS k d) ≡ row_of (kind_of k)
row_right k d h =
    sym (get_or-map row_in ROWS k d (row_in d) h)
    ∙ ap (λ (rs : List Row). get_or rs k (row_in d)) rows_right
    ∙ get_or-map-range_with_len row_of_number 0 37 k k (row_in d) h (omega arith)

-- no kind has a number over 36
pub row_past : (k : ℕ) → 37 ≤ k → row_in NO_KIND ≡ row_of (kind_of k)
unfolding row_of
row_past k h = rw (kind_past k h)

-- the row that the code reads is the node's
pub row_read : (t : List ℕ) (n : ℕ) → row_of (kind_of (get_or t (4 * n) 0)) ≡ row_at t n
row_read t n = ap (λ (i : ℕ). row_of (kind_of (get_or t i 0))) (omega arith)

-- a node without a fault has a kind
pub known_kind : (t : List ℕ) (n : ℕ) → node_fault t n ≡ fine → get_or t (4 * n) 0 < 37
unfolding row_of
known_kind t n e = by (ltb (get_or t (4 * n) 0) 37) refl
  where
    by : (b : Bool) → ltb (get_or t (4 * n) 0) 37 ≡ b → get_or t (4 * n) 0 < 37
    by true q = ltb-true (get_or t (4 * n) 0) 37 q
    by false q =
        let at : 4 * n + 0 ≡ 4 * n = omega arith in
        let past : kind_of (get_or t (4 * n + 0) 0) ≡ unknown = rw at (kind_past (get_or t (4 * n) 0) (ltb-false (get_or t (4 * n) 0) 37 q)) in
        absurd ((node_fits t n e).known (rw past))

-- ---- slots

-- the code's test of a node's own slot is 01's of its class
same_slot : (own s : Slot) → is_child s ≡ true → sameb the_type own s ≡ eqb (rank (class_in own)) (rank (class_in s))
same_slot Arithmetic Arithmetic e = refl
same_slot Boolean Arithmetic e = refl
same_slot Statement Arithmetic e = refl
same_slot Unused Arithmetic e = refl
same_slot Any Arithmetic e = refl
same_slot Variable Arithmetic e = refl
same_slot Arithmetic Boolean e = refl
same_slot Boolean Boolean e = refl
same_slot Statement Boolean e = refl
same_slot Unused Boolean e = refl
same_slot Any Boolean e = refl
same_slot Variable Boolean e = refl
same_slot Arithmetic Statement e = refl
same_slot Boolean Statement e = refl
same_slot Statement Statement e = refl
same_slot Unused Statement e = refl
same_slot Any Statement e = refl
same_slot Variable Statement e = refl
same_slot own Unused e = cc
same_slot own Any e = cc
same_slot own Variable e = cc

no_child : (own : Slot) → eqb (rank (class_in own)) 3 ≡ not (is_child own)
no_child Arithmetic = refl
no_child Boolean = refl
no_child Statement = refl
no_child Unused = refl
no_child Any = refl
no_child Variable = refl

module _ (t : List ℕ) (n : ℕ) (row : CodeRow) (read : row_in row ≡ row_at t n) where
  own_slot : (s : Slot) → is_child s ≡ true → sameb the_type row.0 s ≡ is_class t (class_in s) n
  own_slot s e = same_slot row.0 s e ∙ ap (λ (r : Row). eqb (rank r.class) (rank (class_in s))) read

  -- what the test of another slot told, and that of a child's
  pub other_slot : (s : Slot) → is_child s ≡ true → {b v : Bool} → b ≡ not (sameb the_type row.0 s) → b ≡ v → is_class t (class_in s) n ≡ not v
  other_slot s e {b} {v} f g = sym (own_slot s e) ∙ turned (sameb the_type row.0 s) b f ∙ ap not g
    where
      turned : (s b : Bool) → b ≡ not s → s ≡ not b
      turned true b e = rw e
      turned false b e = rw e

  pub no_kind : {b v : Bool} → b ≡ is_child row.0 → b ≡ v → is_class t no_class n ≡ not v
  no_kind f g = sym (ap (λ (r : Row). eqb (rank r.class) 3) read) ∙ no_child row.0 ∙ ap not (sym f ∙ g)

-- a slot of a child asks for a child of its class
pub child_slot : (s : Slot) → is_child s ≡ true → slot_in s ≡ child (class_in s)
child_slot Arithmetic e = refl
child_slot Boolean e = refl
child_slot Statement e = refl
child_slot Unused e = cc
child_slot Any e = cc
child_slot Variable e = cc

-- any other names no child
pub none_named : (s : Slot) (w : ℕ) → is_child s ≡ false → child_in (slot_in s) w ≡ []
unfolding child_in
none_named Arithmetic w e = cc
none_named Boolean w e = cc
none_named Statement w e = cc
none_named Unused w e = refl
none_named Any w e = refl
none_named Variable w e = refl

-- and the word 0 is right in it
pub zero_fine : (t : List ℕ) (n : ℕ) (s : Slot) → is_child s ≡ false → fine ≡ word_fault t n (slot_in s) 0
unfolding word_fault
zero_fine t n Arithmetic e = cc
zero_fine t n Boolean e = cc
zero_fine t n Statement e = cc
zero_fine t n Unused e = refl
zero_fine t n Any e = refl
zero_fine t n Variable e = refl

-- one that is neither unused nor a variable's takes any number
pub rest_fine : (t : List ℕ) (n w : ℕ) (s : Slot) → is_child s ≡ false → (s ≡ Unused → ⊥) → (s ≡ Variable → ⊥)
    → fine ≡ word_fault t n (slot_in s) w
unfolding word_fault
rest_fine t n w Arithmetic e x y = cc
rest_fine t n w Boolean e x y = cc
rest_fine t n w Statement e x y = cc
rest_fine t n w Unused e x y = absurd (x refl)
rest_fine t n w Any e x y = refl
rest_fine t n w Variable e x y = absurd (y refl)
