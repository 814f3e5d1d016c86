-- `count` sums what the nodes add. The invariant is `SoFar`. Assumes nothing.
use mathlib.Core.Path.{refl, ◌∙◌}
use native.Mathlib.Omega.{arith}
use lib.ListN.{length-append}
use Rattle.rules.proofs.TableLaws.{accepted_facts}
use Rattle.compiler.proofs.Counting.{count_begins, count_goes_on, count_ends}
use Rattle.compiler.proofs.count.Goals as goal

pub loop-node-init : goal.loop-node-init
loop-node-init c = rw (c.into_iter-node-iterator.ensures.into_iter_gives, c.chunks_exact-node-items.ensures.size, c.chunks_exact-node-items.ensures.rest)
    (record { by_four = refl; so_far = count_begins _ (accepted_facts _ c.requires) })

pub loop-node-preserved : goal.loop-node-preserved
loop-node-preserved c =
    let sized = c.loop-node.invariant.by_four in
    let next = c.in-Some.ensures.steps in
    record {
      by_four = next.0 ∙ sized;
      so_far = rw length-append
          (count_goes_on _ _ c.loop-node.invariant.so_far next.1.0 (next.1.1 ∙ sized) c.added-total.ensures.0 c.added-total.ensures.1);
    }

pub returns : goal.returns
returns c =
    let few = c.in-None.ensures.steps.1.0 in
    count_ends _ (accepted_facts _ c.requires) c.loop-node.invariant.so_far (omega (arith, few, c.loop-node.invariant.by_four))
