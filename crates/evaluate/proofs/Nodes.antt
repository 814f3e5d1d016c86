-- A node that can be evaluated: its words can be read, it is as its kind says, and each of its children can be evaluated in turn.
use mathlib.Core.Path.{◌≡◌, refl, sym, ap, ◌∙◌}
use mathlib.Core.Bool.{Bool, true, false, ◌&&◌}
use mathlib.Core.List.{List}
use Prim.Native.Nat.{ℕ, ◌+◌, ◌*◌, ◌<◌, ◌≤◌}
use native.Mathlib.Omega.{arith}
use lib.Dec.{leb}
use lib.IntN.{ℤ}
use lib.Signed.{mag}
use mir.Syntax.{w32}
use borrow.Author.Tests.{leb-false}
use Rattle.rules.specs.Expression.{Store}
use Rattle.rules.specs.Table.{Kind, Class, arithmetic, boolean, field, kind_of, meaning}
use Rattle.rules.proofs.KindLaws.{arithmetic_range, boolean_range}
use Rattle.rules.proofs.TableLaws.{accepted_facts, NodeAs, node_as, Child}
use Rattle.value.proofs.Machine.{back, read_back}
use Rattle.lent.specs.Within.{Within}
use Rattle.evaluate.specs.Ready.{Ready}
use Rattle.evaluate.specs.inside.Operands.{Value}

-- node n is as its kind says, with its words as the table has them
abbrev pub As : Kind → List ℕ → ℕ → Type 0
As kind t n = NodeAs t n kind (field t n 1) (field t n 2) (field t n 3)

module _ {t : List ℕ} {n : ℕ} {c : Class} (ready : Ready t n c) where
  pub word_inside : (i : ℕ) → i < 4 → Within t n i
  word_inside i h =
      let f = accepted_facts t ready.accepted in
      record { inside = omega (arith, ready.inside); short = omega (arith, f.whole, f.few) }

  -- node n, whose kind is read as k
  pub node : {k : ℕ} → k ≡ field t n 0 → (kind : Kind) → kind_of k ≡ kind → As kind t n
  node e kind f = node_as ((accepted_facts t ready.accepted).node n ready.inside) kind (ap kind_of (sym e) ∙ f)

  -- a child of it, named by the word that was read
  pub child_ready : {d : Class} {v w : ℕ} → w ≡ v → Child t n d v → Ready t w d
  child_ready {w = w} e child = record { accepted = ready.accepted; inside = omega (arith, ready.inside, child.below); class = rw e child.class }

  -- it lies lower, so that twice its number and one more falls
  pub down : {d : Class} {v w m : ℕ} → w ≡ v → Child t n d v → 2 * n ≤ m → (2 * w + 1 < m) × Ready t w d
  down e child h = (omega (arith, child.below), child_ready e child)

  -- what a call on w answers, where w is the word v of the node
  pub arith_answer : (σ : Store) {v w : ℕ} {r : ℤ} → mag r < 2147483648 → r ≡ (meaning t).arith w σ → w ≡ v → back w32 r ≡ (meaning t).arith v σ
  arith_answer σ h e f = read_back _ h ∙ e ∙ ap (λ x. (meaning t).arith x σ) f

  pub value_answer : (σ : Store) {v w : ℕ} {r : ℤ} → mag r < 2147483648 → r ≡ (meaning t).arith w σ → w ≡ v → Value t v σ (back w32 r)
  value_answer σ h e f = record { is = arith_answer σ h e f; small = rw (read_back _ h) h }

  pub boolean_answer : (σ : Store) {v w : ℕ} {b : Bool} → b ≡ (meaning t).holds w σ → w ≡ v → b ≡ (meaning t).holds v σ
  boolean_answer σ e f = e ∙ ap (λ x. (meaning t).holds x σ) f

module _ {t : List ℕ} {n k : ℕ} where
  pub arithmetic_kind : Ready t n arithmetic → k ≡ field t n 0 → (1 ≤ k) × (k ≤ 8)
  arithmetic_kind ready e = rw e (arithmetic_range (field t n 0) ready.class)

  pub boolean_kind : Ready t n boolean → k ≡ field t n 0 → (16 ≤ k) × (k ≤ 22)
  boolean_kind ready e = rw e (boolean_range (field t n 0) ready.class)

-- the one boolean kind that is neither a truth, a comparison nor a negation
pub last_boolean : (k : ℕ) → (16 ≤ k) × (k ≤ 22) → (leb 18 k && leb k 20) ≡ false → (k ≡ 16 → ⊥) → (k ≡ 17 → ⊥) → (k ≡ 21 → ⊥) → k ≡ 22
last_boolean k class e a b c = by (leb 18 k) refl
  where
    by : (low : Bool) → leb 18 k ≡ low → k ≡ 22
    by true h = let high = leb-false k 20 (rw h at e) in omega (arith, class.0, class.1, high, c)
    by false h = omega (arith, class.0, leb-false 18 k h, a, b)

-- a value that is passed on is read back as it was
pub passed : {t : List ℕ} {n : ℕ} {σ : Store} {r : ℤ} → Value t n σ r → back w32 r ≡ (meaning t).arith n σ
passed v = read_back _ v.small ∙ v.is
