-- `read_lines` meets its contract. The loop's invariant is `ReadSoFar`.
use Rattle.std.proofs.Common.{◌≡◌, ◌+◌, ◌-◌, ◌*◌, ◌∙◌, arith, rules}
use Rattle.reading.proofs.ReadSteps.{whole_turn, can_read_line, part_for, line_read, none_read, all_read}
use Rattle.reading.proofs.read_lines.Goals as goal

pub loop-k-init : goal.loop-k-init
loop-k-init c = (search rules, tt, search rules, none_read _ _ _ _ _ (search rules) (search rules))

pub slice_bounds-read_line-end : goal.slice_bounds-read_line-end
slice_bounds-read_line-end c =
    let steps = c.in-Some.ensures.steps in
    let turn = whole_turn _ _ _ _ _ c.loop-k.invariant.2 steps.0.1.0 steps.0.1.1 in
    let so = rw (← steps.1) at c.loop-k.invariant.3 in
    let line = can_read_line _ _ _ _ _ _ _ _ c.requires so turn in
    omega (arith, line.enough, so.same_length)

pub read_line-requires : goal.read_line-requires
read_line-requires c =
    let steps = c.in-Some.ensures.steps in
    let turn = whole_turn _ _ _ _ _ c.loop-k.invariant.2 steps.0.1.0 steps.0.1.1 in
    let so = rw (← steps.1) at c.loop-k.invariant.3 in
    let line = can_read_line _ _ _ _ _ _ _ _ c.requires so turn in
    rw (part_for c.args.w c.in-Some.k c.loop-k.room (omega (arith, line.enough, so.same_length))) line.digits

pub loop-k-preserved : goal.loop-k-preserved
loop-k-preserved c =
    let steps = c.in-Some.ensures.steps in
    let turn = whole_turn _ _ _ _ _ c.loop-k.invariant.2 steps.0.1.0 steps.0.1.1 in
    let so = rw (← steps.1) at c.loop-k.invariant.3 in
    let line = can_read_line _ _ _ _ _ _ _ _ c.requires so turn in
    let long = part_for c.args.w c.in-Some.k c.loop-k.room (omega (arith, line.enough, so.same_length)) in
    let w : c.args.w * c.in-Some.k + c.args.w - c.args.w * c.in-Some.k ≡ c.args.w = omega arith in (
      search rules,
      search rules,
      steps.0.0 ∙ c.loop-k.invariant.2,
      rw (steps.2, ← steps.1) (line_read _ _ _ _ _ _ _ _ c.requires so turn _ c.read_line.new.room (rw long at c.read_line.ensures) (rw w)),
    )

pub returns : goal.returns
returns c =
    let steps = c.in-None.ensures.steps in
    all_read _ _ _ _ _ _ c.requires c.loop-k.invariant.3 (omega (arith, steps.0.1.0, c.loop-k.invariant.2))
