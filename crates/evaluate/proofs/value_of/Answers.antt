-- `value_of` meets its contract: what it works out itself is a leaf, or an operation on two leaves.
use mathlib.Core.Path.{◌≡◌, refl, sym, ap₂, ◌∙◌}
use mathlib.Core.List.{List}
use Prim.Native.Nat.{ℕ, ◌≤◌}
use native.Mathlib.Omega.{arith as linear}
use lib.Dec.{lit<}
use Rattle.rules.specs.Expression.{apply}
use Rattle.rules.specs.Table.{arithmetic, binary, field, row_of}
use Rattle.evaluate.specs.Ready.{Ready}
use Rattle.evaluate.specs.inside.Operands.{operator_of}
use Rattle.evaluate.proofs.Operators.{binary_kind}
use Rattle.rules.proofs.MeaningLaws.{binary_means}
use Rattle.value.proofs.Machine.{read_back}
use Rattle.evaluate.proofs.Nodes.{As, word_inside, node, child_ready, arithmetic_kind, passed}
use Rattle.evaluate.proofs.value_of.Goals as goal

-- the node is one of kinds 3 to 7
module _ {t : List ℕ} {n k : ℕ} (ready : Ready t n arithmetic) (kind : k ≡ field t n 0) (high : 3 ≤ k) (other : k ≡ 8 → ⊥) where
  operator_kind : (3 ≤ k) × (k ≤ 7)
  operator_kind = let some : (1 ≤ k) × (k ≤ 8) = arithmetic_kind ready kind in (high, omega linear)

  a_binary : As (binary (operator_of k)) t n
  a_binary = node ready kind _ (binary_kind k operator_kind.0 operator_kind.1)

pub word-k-requires : goal.word-k-requires
word-k-requires c = word_inside c.requires _ (lit< tt)

pub leaves-requires : goal.leaves-requires
unfolding row_of
leaves-requires c =
    let known = a_binary c.requires c.word-k.ensures c.if-k-le-VARIABLE.false c.if-k-ne-CHOOSE.true in
    record {
      class = arithmetic;
      node = c.requires;
      first = child_ready c.requires refl known.first;
      second = child_ready c.requires refl known.second;
    }

pub apply-requires : goal.apply-requires
apply-requires c = operator_kind c.requires c.word-k.ensures c.if-k-le-VARIABLE.false c.if-k-ne-CHOOSE.true

pub returns-in-Some : goal.returns-in-Some
returns-in-Some c =
    let worth = c.in-Some.ensures in
    let known = a_binary c.requires c.word-k.ensures c.if-k-le-VARIABLE.false c.if-k-ne-CHOOSE.true in
    read_back c.apply.result c.apply.type_inv ∙ c.apply.ensures ∙ ap₂ (apply _) (passed worth.0) (passed worth.1) ∙ sym (binary_means _ known)
