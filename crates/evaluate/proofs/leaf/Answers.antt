-- `leaf` meets its contract: a number is its word's value, a variable what the store has.
use mathlib.Core.Path.{◌≡◌, sym, ap, ◌∙◌}
use mathlib.Core.List.{List}
use Prim.Native.Nat.{ℕ, ◌<◌, ◌≤◌}
use native.Mathlib.Omega.{arith}
use lib.Dec.{lit<}
use lib.IntN.{pos}
use lib.ListN.{get_or}
use borrow.Author.Rules.{rules, scaled_Fits}
use Rattle.rules.specs.Lists.{fetch}
use Rattle.rules.specs.Value.{value}
use Rattle.rules.specs.Table.{kind_of, row_of, field, number, variable}
use Rattle.rules.proofs.MeaningLaws.{number_means, variable_means}
use Rattle.value.proofs.Machine.{read_back}
use Rattle.evaluate.specs.inside.Operands.{Leaf}
use Rattle.evaluate.proofs.Nodes.{As, word_inside, node, arithmetic_kind}
use Rattle.evaluate.proofs.leaf.Goals as goal

module _ {t : List ℕ} {n k : ℕ} (leaf : Leaf t n k) where
  a_number : k ≡ 1 → As number t n
  unfolding kind_of fetch
  a_number e = node leaf.ready leaf.kind number (ap kind_of e)

  a_variable : (k ≡ 1 → ⊥) → As variable t n
  unfolding kind_of fetch
  a_variable other =
      let some : (1 ≤ k) × (k ≤ 8) = arithmetic_kind leaf.ready leaf.kind in
      let two : k ≡ 2 = omega (arith, leaf.low) in
      node leaf.ready leaf.kind variable (ap kind_of two)

  -- a variable's number is below the store's length
  inside : {x : ℕ} → x ≡ field t n 1 → (k ≡ 1 → ⊥) → x < 32
  unfolding row_of
  inside e other = rw e (a_variable other).first

pub word-requires : goal.word-requires
word-requires c = word_inside c.requires.ready _ (lit< tt)

pub returns-then-is_number : goal.returns-then-is_number
returns-then-is_number c =
    let answer = read_back c.of_word.result c.of_word.type_inv ∙ c.of_word.ensures ∙ ap value c.word.ensures in
    answer ∙ sym (number_means _ (a_number c.requires c.if-is_number.true))

pub place-x-requires : goal.place-x-requires
place-x-requires c = word_inside c.requires.ready _ (lit< tt)

pub offset_bounds-s-x : goal.offset_bounds-s-x
offset_bounds-s-x c = scaled_Fits c.place-x.result 32 4 (inside c.requires c.place-x.ensures c.if-is_number.false) (lit< tt)

pub bounds-s-x : goal.bounds-s-x
bounds-s-x c = inside c.requires c.place-x.ensures c.if-is_number.false

pub returns : goal.returns
returns c =
    let σ = c.args.s.now in
    let answer = read_back _ (search rules) ∙ ap (λ x. get_or σ x (pos 0)) c.place-x.ensures in
    answer ∙ sym (variable_means σ (a_variable c.requires c.if-is_number.false))
