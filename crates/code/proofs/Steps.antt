-- One step, by the operation of the instruction that was read: what may be evaluated, and that what the step leaves is what Fig. 1 says.
use mathlib.Core.Path.{◌≡◌, refl, ap, ◌∙◌}
use mathlib.Core.Bool.{true, false}
use mathlib.Core.List.{List}
use Prim.Native.Nat.{ℕ, ◌+◌, ◌<◌, ◌≤◌}
use lib.IntN.{ℤ}
use lib.ListN.{set}
use Rattle.std.specs.Prelude.{Option}
use Rattle.rules.specs.Expression.{Store}
use Rattle.rules.specs.Goto.{Instr, ◌≔◌, goto, ifnot, next_label, next_store}
use Rattle.rules.specs.Table.{arithmetic, boolean, Class, meaning}
use Rattle.rules.specs.CodeWords.{part, instructions, instr_of, instr_at}
use Rattle.rules.proofs.FetchLaws.{Node, Fields, CodeFacts, code_facts, assign_fields, test_fields, assign_instr, jump_instr, test_instr}
use Rattle.evaluate.specs.Ready.{Ready}
use Rattle.code.specs.inside.Running.{Place, Stands, Stepped}

-- the words of instruction k, as they were read
pub record Read (c : List ℕ) (k o x y : ℕ) : Type 0 where
  pub operation : o ≡ part c k 1
  pub first : x ≡ part c k 2
  pub second : y ≡ part c k 3

module _ {t c : List ℕ} {k : ℕ} {σ : Store} (stands : Stands t c k σ) where
  facts : CodeFacts t c
  facts = code_facts t c stands.admitted.code

  pub goes_on : (k < instructions c) × (part c k 0 ≤ 65534)
  goes_on = (stands.inside, facts.label k stands.inside)

  ready : {n : ℕ} {d : Class} → Node t d n → Ready t n d
  ready node = record { accepted = stands.admitted.table; inside = node.inside; class = node.class }

  module _ {o x y : ℕ} (read : Read c k o x y) where
    fields : Fields t o x y
    fields = rw (read.operation, read.first, read.second) (facts.fields k stands.inside)

    instr : instr_at c k ≡ instr_of o x y
    instr = rw (read.operation, read.first, read.second)

    pub can_assign : o ≡ 1 → (x < 32) × Ready t y arithmetic
    can_assign e = let fit = assign_fields fields e in (fit.0, ready fit.1)

    pub can_test : (o ≡ 1 → ⊥) → (o ≡ 2 → ⊥) → Ready t x boolean
    can_test p q = ready (test_fields fields p q).0

    module _ {ℓ : ℕ} {place : Option ℕ} where
      -- what the instruction i leaves
      by : {m : ℕ} {σ' : Store} (i : Instr) → instr_of o x y ≡ i → m ≡ next_label (meaning t) i (part c k 0) σ → σ' ≡ next_store (meaning t) i σ
          → (ℓ ≡ m) × Place c m place → Stepped t c k σ ℓ place σ'
      by i e label store at =
          let same : instr_at c k ≡ i = instr ∙ e in
          record { label = rw same (at.0 ∙ label); store = rw same store; at = rw at.0 at.1 }

      pub assigned : {v : ℤ} → o ≡ 1 → v ≡ (meaning t).arith y σ → (ℓ ≡ part c k 0 + 1) × Place c (part c k 0 + 1) place → Stepped t c k σ ℓ place (set σ x v)
      unfolding next_label next_store
      assigned e v at = by (x ≔ y) (assign_instr x y e) refl (ap (set σ x) v) at

      pub jumped : o ≡ 2 → (ℓ ≡ y) × Place c y place → Stepped t c k σ ℓ place σ
      unfolding next_label next_store
      jumped e at = by (goto y) (jump_instr x y e) refl refl at

      module _ (p : o ≡ 1 → ⊥) (q : o ≡ 2 → ⊥) where
        pub held : (meaning t).holds x σ ≡ true → (ℓ ≡ part c k 0 + 1) × Place c (part c k 0 + 1) place → Stepped t c k σ ℓ place σ
        unfolding next_label next_store
        held e at = by (ifnot x y) (test_instr x y p q) (rw (e, next_label) refl) refl at

        pub failed : (meaning t).holds x σ ≡ false → (ℓ ≡ y) × Place c y place → Stepped t c k σ ℓ place σ
        unfolding next_label next_store
        failed e at = by (ifnot x y) (test_instr x y p q) (rw (e, next_label) refl) refl at
