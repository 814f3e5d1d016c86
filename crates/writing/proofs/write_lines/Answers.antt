-- `write_lines` meets its contract. The loop's invariant is `WrittenSoFar`.
use Rattle.std.proofs.Common.{◌≡◌, ◌+◌, ◌-◌, ◌*◌, sym, ap, ◌∙◌, arith, rules}
use Rattle.rules.specs.Text.{line_length}
use Rattle.writing.proofs.WriteSteps.{turn_of, line_fits, part_for, line_written, none_written, all_written}
use Rattle.writing.proofs.write_lines.Goals as goal

pub loop-k-init : goal.loop-k-init
loop-k-init c = (search rules, tt, search rules, none_written _ _ _ _ _ (search rules) (search rules))

pub slice_bounds-write_line-end : goal.slice_bounds-write_line-end
slice_bounds-write_line-end c =
    let steps = c.in-Some.ensures.steps in
    let turn = turn_of _ _ _ _ _ c.loop-k.invariant.2 (steps.0.1.0, steps.0.1.1) in
    let so = rw (← steps.1) at c.loop-k.invariant.3 in
    omega (arith, line_fits _ _ _ _ _ _ _ _ c.requires so turn)

pub write_line-requires : goal.write_line-requires
write_line-requires c =
    let steps = c.in-Some.ensures.steps in
    let turn = turn_of _ _ _ _ _ c.loop-k.invariant.2 (steps.0.1.0, steps.0.1.1) in
    let so = rw (← steps.1) at c.loop-k.invariant.3 in
    part_for (line_length c.args.w) c.in-Some.k c.loop-k.room (line_fits _ _ _ _ _ _ _ _ c.requires so turn)
    ∙ ap line_length (sym turn.whole)

pub loop-k-preserved : goal.loop-k-preserved
loop-k-preserved c =
    let steps = c.in-Some.ensures.steps in
    let turn = turn_of _ _ _ _ _ c.loop-k.invariant.2 (steps.0.1.0, steps.0.1.1) in
    let so = rw (← steps.1) at c.loop-k.invariant.3 in
    let k = c.in-Some.k in
    let long : line_length c.args.w * k + line_length c.args.w - line_length c.args.w * k ≡ line_length c.args.w = omega arith in (
      search rules,
      search rules,
      steps.0.0 ∙ c.loop-k.invariant.2,
      rw (steps.2, ← steps.1) (line_written _ _ _ _ _ _ _ _ c.requires so turn _ c.write_line.new.room c.write_line.ensures (rw long)),
    )

pub returns : goal.returns
returns c =
    let steps = c.in-None.ensures.steps in
    all_written _ _ _ _ _ _ c.requires c.loop-k.invariant.3 (omega (arith, steps.0.1.0, c.loop-k.invariant.2))
