-- `first_fault` meets its contract. The loop's invariant is `Sought`.
use Rattle.std.proofs.Common.{sym, ◌∙◌, arith, rules}
use Rattle.std.proofs.lemmas.List.{nil_from_length}
use Rattle.reading.proofs.ReadSteps.{turn_of, late, short, not_line, one_fine, all_fine}
use Rattle.reading.proofs.first_fault.Goals as goal
use Rattle.reading.proofs.first_fault.Goals.{
  then-k-ge1024-via-then-k-ge1024,
  then-k-ge1024-via-else-k-ge1024+then-line-digits,
  then-k-ge1024-via-else-k-ge1024+else-line-digits+then-not-is_line,
}

pub returns-then-k-ge1024 : goal.returns-then-k-ge1024
returns-then-k-ge1024 c =
    let steps = c.in-Some.ensures.steps in
    let so = c.loop-k.invariant.3 in
    let turn = turn_of _ _ _ _ _ c.loop-k.invariant.2 steps.0.1 in
    rw steps.1 (elim c.then-k-ge1024.branch [
      | then-k-ge1024-via-then-k-ge1024 w ↦ late _ _ _ _ _ _ so turn (omega (arith, steps.1, w.if-k-ge1024.true))
      | then-k-ge1024-via-else-k-ge1024+then-line-digits w ↦ short _ _ _ _ _ _ so turn (omega (arith, w.if-line-digits.true))
      | then-k-ge1024-via-else-k-ge1024+else-line-digits+then-not-is_line w ↦
          not_line _ _ _ _ _ _ so turn (omega (arith, w.if-line-digits.false)) (sym w.is_line.ensures ∙ w.if-not-is_line.true)
    ])

pub loop-k-preserved : goal.loop-k-preserved
loop-k-preserved c =
    let steps = c.in-Some.ensures.steps in
    let turn = turn_of _ _ _ _ _ c.loop-k.invariant.2 steps.0.1 in
    let good = sym c.is_line.ensures ∙ c.if-not-is_line.false in (
      search rules,
      search rules,
      steps.0.0 ∙ c.loop-k.invariant.2,
      rw steps.2 (one_fine _ _ _ _ _ _ c.loop-k.invariant.3 turn (omega (arith, steps.1)) (omega (arith, c.if-line-digits.false)) good),
    )

pub returns : goal.returns
returns c =
    let none = nil_from_length _ c.in-None.ensures.steps.0.1.0 in
    all_fine _ _ _ (rw none at c.loop-k.invariant.3)
