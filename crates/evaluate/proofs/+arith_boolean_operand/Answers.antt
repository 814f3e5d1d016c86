-- The evaluators meet their contracts. m is the measure of the call: twice the node's number, and one more in `boolean` and `operand`.
use native.Mathlib.Omega.{arith as linear}
use mathlib.Core.Path.{◌≡◌, sym, ap, ap₂, ◌∙◌}
use mathlib.Core.Bool.{true, false, not, ◌&&◌}
use mathlib.Core.List.{List}
use Prim.Native.Nat.{ℕ, ◌≤◌}
use lib.Dec.{leb, lit<}
use borrow.Author.Tests.{leb-true}
use Rattle.rules.specs.Lists.{fetch}
use Rattle.rules.specs.Expression.{apply, holds}
use Rattle.rules.specs.Table.{choose, binary, truth, compare, negation, both, boolean as booleans, field, kind_of, row_of}
use Rattle.rules.proofs.ListLaws.{and_true}
use Rattle.rules.proofs.MeaningLaws as means
use Rattle.value.proofs.Machine.{read_back}
use Rattle.evaluate.specs.Ready.{Ready}
use Rattle.evaluate.specs.inside.Operands.{operator_of, relation_of, Compound}
use Rattle.evaluate.proofs.Operators.{binary_kind, compare_kind}
use Rattle.evaluate.proofs.Nodes.{As, word_inside, node, down, arith_answer, boolean_answer, arithmetic_kind, boolean_kind, last_boolean}
use Rattle.evaluate.proofs.+arith_boolean_operand.Goals as goal

-- ---- `arith`: the node is a choice, or an operation

module _ {t : List ℕ} {n k : ℕ} (here : Compound t n k) where
  a_choose : k ≡ 8 → As choose t n
  unfolding kind_of fetch
  a_choose e = node here.ready here.kind choose (ap kind_of e)

  operator_kind : (k ≡ 8 → ⊥) → (3 ≤ k) × (k ≤ 7)
  operator_kind other = let some : (1 ≤ k) × (k ≤ 8) = arithmetic_kind here.ready here.kind in (here.high, omega linear)

  a_binary : (k ≡ 8 → ⊥) → As (binary (operator_of k)) t n
  a_binary other = let within = operator_kind other in node here.ready here.kind _ (binary_kind k within.0 within.1)

pub arith-place-requires : goal.arith-place-requires
arith-place-requires m c = word_inside c.requires.ready _ (lit< tt)

pub arith-boolean-requires : goal.arith-boolean-requires
unfolding row_of
arith-boolean-requires m c = down c.requires.ready c.place.ensures (a_choose c.requires c.if-k-eq-CHOOSE.true).first (omega linear)

pub arith-place-requires-then-boolean : goal.arith-place-requires-then-boolean
arith-place-requires-then-boolean m c = word_inside c.requires.ready _ (lit< tt)

pub arith-operand-requires : goal.arith-operand-requires
unfolding row_of
arith-operand-requires m c = down c.requires.ready c.place-then-boolean.ensures (a_choose c.requires c.if-k-eq-CHOOSE.true).second (omega linear)

pub arith-returns-then-boolean : goal.arith-returns-then-boolean
arith-returns-then-boolean m c =
    let ready = c.requires.ready in
    let answer = arith_answer ready _ c.operand.type_inv c.operand.ensures c.place-then-boolean.ensures in
    let tested = sym (boolean_answer ready _ c.boolean.ensures c.place.ensures) ∙ c.if-boolean.true in
    answer ∙ sym (means.choose_true _ (a_choose c.requires c.if-k-eq-CHOOSE.true) tested)

pub arith-place-requires-then-k-eq-CHOOSE : goal.arith-place-requires-then-k-eq-CHOOSE
arith-place-requires-then-k-eq-CHOOSE m c = word_inside c.requires.ready _ (lit< tt)

pub arith-operand-requires-then-k-eq-CHOOSE : goal.arith-operand-requires-then-k-eq-CHOOSE
unfolding row_of
arith-operand-requires-then-k-eq-CHOOSE m c =
    down c.requires.ready c.place-then-k-eq-CHOOSE.ensures (a_choose c.requires c.if-k-eq-CHOOSE.true).third (omega linear)

pub arith-returns-then-k-eq-CHOOSE : goal.arith-returns-then-k-eq-CHOOSE
arith-returns-then-k-eq-CHOOSE m c =
    let ready = c.requires.ready in
    let answer = arith_answer ready _ c.operand-then-k-eq-CHOOSE.type_inv c.operand-then-k-eq-CHOOSE.ensures c.place-then-k-eq-CHOOSE.ensures in
    let tested = sym (boolean_answer ready _ c.boolean.ensures c.place.ensures) ∙ c.if-boolean.false in
    answer ∙ sym (means.choose_false _ (a_choose c.requires c.if-k-eq-CHOOSE.true) tested)

pub arith-place-requires-2 : goal.arith-place-requires-2
arith-place-requires-2 m c = word_inside c.requires.ready _ (lit< tt)

pub arith-operand-a-requires : goal.arith-operand-a-requires
unfolding row_of
arith-operand-a-requires m c = down c.requires.ready c.place-2.ensures (a_binary c.requires c.if-k-eq-CHOOSE.false).first (omega linear)

pub arith-place-requires-3 : goal.arith-place-requires-3
arith-place-requires-3 m c = word_inside c.requires.ready _ (lit< tt)

pub arith-operand-b-requires : goal.arith-operand-b-requires
unfolding row_of
arith-operand-b-requires m c = down c.requires.ready c.place-3.ensures (a_binary c.requires c.if-k-eq-CHOOSE.false).second (omega linear)

pub arith-apply-requires : goal.arith-apply-requires
arith-apply-requires m c = operator_kind c.requires c.if-k-eq-CHOOSE.false

pub arith-returns : goal.arith-returns
arith-returns m c =
    let ready = c.requires.ready in
    let a = arith_answer ready _ c.operand-a.type_inv c.operand-a.ensures c.place-2.ensures in
    let b = arith_answer ready _ c.operand-b.type_inv c.operand-b.ensures c.place-3.ensures in
    let answer = read_back c.apply.result c.apply.type_inv ∙ c.apply.ensures ∙ ap₂ (apply _) a b in
    answer ∙ sym (means.binary_means _ (a_binary c.requires c.if-k-eq-CHOOSE.false))

-- ---- `boolean`: the node is a comparison, a truth, a negation or, in the last arm, a conjunction

module _ {t : List ℕ} {n k : ℕ} (ready : Ready t n booleans) (kind : k ≡ field t n 0) where
  -- past the first test it is a comparison
  relation_kind_lem : (leb 18 k && leb k 20) ≡ true → (18 ≤ k) × (k ≤ 20)
  relation_kind_lem e = let within = and_true _ _ e in (leb-true _ _ within.0, leb-true _ _ within.1)

  a_compare : (leb 18 k && leb k 20) ≡ true → As (compare (relation_of k)) t n
  a_compare e = let within = relation_kind_lem e in node ready kind _ (compare_kind k within.0 within.1)

  a_truth : k ≡ 16 → As (truth true) t n
  unfolding kind_of fetch
  a_truth e = node ready kind (truth true) (ap kind_of e)

  a_falsehood : k ≡ 17 → As (truth false) t n
  unfolding kind_of fetch
  a_falsehood e = node ready kind (truth false) (ap kind_of e)

  a_negation : k ≡ 21 → As negation t n
  unfolding kind_of fetch
  a_negation e = node ready kind negation (ap kind_of e)

  -- the last kind of its class
  a_both : (leb 18 k && leb k 20) ≡ false → (k ≡ 16 → ⊥) → (k ≡ 17 → ⊥) → (k ≡ 21 → ⊥) → As both t n
  unfolding kind_of fetch
  a_both e a b c = node ready kind both (ap kind_of (last_boolean k (boolean_kind ready kind) e a b c))

pub boolean-word-k-requires : goal.boolean-word-k-requires
boolean-word-k-requires m c = word_inside c.requires _ (lit< tt)

pub boolean-place-requires : goal.boolean-place-requires
boolean-place-requires m c = word_inside c.requires _ (lit< tt)

pub boolean-operand-a-requires : goal.boolean-operand-a-requires
unfolding row_of
boolean-operand-a-requires m c = down c.requires c.place.ensures (a_compare c.requires c.word-k.ensures c.if-k.true).first (omega linear)

pub boolean-place-requires-then-k : goal.boolean-place-requires-then-k
boolean-place-requires-then-k m c = word_inside c.requires _ (lit< tt)

pub boolean-operand-b-requires : goal.boolean-operand-b-requires
unfolding row_of
boolean-operand-b-requires m c = down c.requires c.place-then-k.ensures (a_compare c.requires c.word-k.ensures c.if-k.true).second (omega linear)

pub boolean-returns-then-k : goal.boolean-returns-then-k
boolean-returns-then-k m c =
    let a = arith_answer c.requires _ c.operand-a.type_inv c.operand-a.ensures c.place.ensures in
    let b = arith_answer c.requires _ c.operand-b.type_inv c.operand-b.ensures c.place-then-k.ensures in
    c.compare.ensures ∙ ap₂ (holds _) a b ∙ sym (means.compare_means _ (a_compare c.requires c.word-k.ensures c.if-k.true))

pub boolean-place-requires-in-21 : goal.boolean-place-requires-in-21
boolean-place-requires-in-21 m c = word_inside c.requires _ (lit< tt)

pub boolean-boolean-requires : goal.boolean-boolean-requires
unfolding row_of
boolean-boolean-requires m c = down c.requires c.place-in-21.ensures (a_negation c.requires c.word-k.ensures c.in-21.is).first (omega linear)

pub boolean-place-requires-in_default : goal.boolean-place-requires-in_default
boolean-place-requires-in_default m c = word_inside c.requires _ (lit< tt)

pub boolean-boolean-a-requires : goal.boolean-boolean-a-requires
unfolding row_of
boolean-boolean-a-requires m c =
    let known = a_both c.requires c.word-k.ensures c.if-k.false (omega linear) (omega linear) (omega linear) in
    down c.requires c.place-in_default.ensures known.first (omega linear)

pub boolean-place-requires-in_default-2 : goal.boolean-place-requires-in_default-2
boolean-place-requires-in_default-2 m c = word_inside c.requires _ (lit< tt)

pub boolean-boolean-b-requires : goal.boolean-boolean-b-requires
unfolding row_of
boolean-boolean-b-requires m c =
    let known = a_both c.requires c.word-k.ensures c.if-k.false (omega linear) (omega linear) (omega linear) in
    down c.requires c.place-in_default-2.ensures known.second (omega linear)

pub boolean-returns-in-16 : goal.boolean-returns-in-16
boolean-returns-in-16 m c = sym (means.truth_means _ (a_truth c.requires c.word-k.ensures c.in-16.is))

pub boolean-returns-in-17 : goal.boolean-returns-in-17
boolean-returns-in-17 m c = sym (means.truth_means _ (a_falsehood c.requires c.word-k.ensures c.in-17.is))

pub boolean-returns-in-21 : goal.boolean-returns-in-21
boolean-returns-in-21 m c =
    let b = boolean_answer c.requires _ c.boolean.ensures c.place-in-21.ensures in
    ap not b ∙ sym (means.negation_means _ (a_negation c.requires c.word-k.ensures c.in-21.is))

pub boolean-returns-in_default : goal.boolean-returns-in_default
boolean-returns-in_default m c =
    let known = a_both c.requires c.word-k.ensures c.if-k.false (omega linear) (omega linear) (omega linear) in
    let a = boolean_answer c.requires _ c.boolean-a.ensures c.place-in_default.ensures in
    let b = boolean_answer c.requires _ c.boolean-b.ensures c.place-in_default-2.ensures in
    ap₂ ◌&&◌ a b ∙ sym (means.both_means _ known)

-- ---- `operand`

pub operand-word-k-requires : goal.operand-word-k-requires
operand-word-k-requires m c = word_inside c.requires _ (lit< tt)
