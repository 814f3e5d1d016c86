-- `table::walk` meets its contract. The loop's invariant: no node passed has a fault, and the marks are those of their children.
use Rattle.std.proofs.Common.{◌≡◌, ℕ, ◌<◌, List, refl, ap, sym, ◌∙◌, eqb-true, below_more, arith}
use Rattle.std.proofs.lemmas.Bool.{eqb-false}
use Rattle.std.specs.Prelude.{Err}
use Rattle.rules.specs.Lists.{joined}
use Rattle.rules.specs.Refusal.{fine}
use Rattle.rules.specs.Table.{nodes, node_fault}
use Rattle.rules.proofs.ListLaws.{some_refuse_lowest, none_refuse_lowest}
use Rattle.table.specs.Checking.{answer}
use Rattle.table.specs.inside.Sets.{bumps}
use Rattle.table.proofs.MarkLaws.{marks_next}
use Rattle.table.proofs.WordLaws.{told_by}
use Rattle.table.proofs.walk.Goals as goal

pub loop-n-init : goal.loop-n-init
unfolding joined bumps
loop-n-init c = (λ k h. absurd (omega arith), refl)

pub returns-then-not-place : goal.returns-then-not-place
unfolding answer
returns-then-not-place c =
    let t : List ℕ = c.args.t.now in
    let n : ℕ = c.loop-n.n in
    let inside : n < nodes t = c.loop-n-test.true in
    let wrong = sym c.place.ensures.right ∙ c.if-not-place.true in
    let faulty : node_fault t n ≡ fine → ⊥ = eqb-false (node_fault t n) fine wrong in
    let found = some_refuse_lowest (node_fault t) (nodes t) n inside faulty c.loop-n.invariant.0 in
    let told = told_by c.unwrap-reason.ensures c.fault.ensures in
    record { answered = rw (found, told) (ap Err c.at.ensures); marked = λ s. absurd (faulty (s n inside)) }

pub loop-n-preserved : goal.loop-n-preserved
loop-n-preserved c =
    let seen = c.place.ensures in
    let right = c.if-not-place.false in
    let all_fine = below_more _ _ c.loop-n.invariant.0 (eqb-true _ fine (sym seen.right ∙ right)) in
    (all_fine, marks_next _ _ _ _ _ c.loop-n.invariant.1 (seen.marked right))

pub returns : goal.returns
unfolding answer
returns c =
    let t : List ℕ = c.args.t.now in
    let all : c.loop-n.n ≡ nodes t = omega (arith, c.loop-n-test.false, c.loop-n.auto.n-end) in
    let inv = c.loop-n.invariant in
    record { answered = rw (none_refuse_lowest (node_fault t) (nodes t) (rw all at inv.0)); marked = λ _. rw all at inv.1 }
