-- `truth_of` meets its contract: what it works out itself is a comparison of two leaves.
use mathlib.Core.Path.{◌≡◌, refl, sym, ap₂, ◌∙◌}
use mathlib.Core.Bool.{true, ◌&&◌}
use mathlib.Core.List.{List}
use Prim.Native.Nat.{ℕ, ◌≤◌}
use lib.Dec.{leb, lit<}
use borrow.Author.Tests.{leb-true}
use Rattle.rules.specs.Expression.{holds}
use Rattle.rules.specs.Table.{boolean, compare, field, row_of}
use Rattle.rules.proofs.ListLaws.{and_true}
use Rattle.evaluate.specs.Ready.{Ready}
use Rattle.evaluate.specs.inside.Operands.{relation_of}
use Rattle.evaluate.proofs.Operators.{compare_kind}
use Rattle.rules.proofs.MeaningLaws.{compare_means}
use Rattle.evaluate.proofs.Nodes.{As, word_inside, node, child_ready, passed}
use Rattle.evaluate.proofs.truth_of.Goals as goal

-- the node is one of kinds 18 to 20
relation_kind_lem : (k : ℕ) → (leb 18 k && leb k 20) ≡ true → (18 ≤ k) × (k ≤ 20)
relation_kind_lem k e = let within = and_true _ _ e in (leb-true _ _ within.0, leb-true _ _ within.1)

a_compare : {t : List ℕ} {n k : ℕ} → Ready t n boolean → k ≡ field t n 0 → (leb 18 k && leb k 20) ≡ true → As (compare (relation_of k)) t n
a_compare {k = k} ready kind e =
    let within = relation_kind_lem k e in
    node ready kind _ (compare_kind k within.0 within.1)

pub word-k-requires : goal.word-k-requires
word-k-requires c = word_inside c.requires _ (lit< tt)

pub leaves-requires : goal.leaves-requires
unfolding row_of
leaves-requires c =
    let known = a_compare c.requires c.word-k.ensures c.if-k.true in
    record {
      class = boolean;
      node = c.requires;
      first = child_ready c.requires refl known.first;
      second = child_ready c.requires refl known.second;
    }

pub returns-in-Some : goal.returns-in-Some
returns-in-Some c =
    let worth = c.in-Some.ensures in
    c.compare.ensures ∙ ap₂ (holds _) (passed worth.0) (passed worth.1) ∙ sym (compare_means _ (a_compare c.requires c.word-k.ensures c.if-k.true))
