-- `is_line` meets its contract. The loop's invariant: `good` says whether each byte passed is a digit.
use Rattle.std.proofs.Common.{◌≡◌, get_or, ap, ◌∙◌, arith, rules}
use Rattle.std.proofs.Math.Seq.{length-take-le, get_or-take}
use Rattle.rules.specs.Lists.{every}
use Rattle.rules.specs.Text.{is_digit}
use Rattle.reading.specs.inside.Parts.{is_line}
use Rattle.reading.proofs.ReadSteps.{every_more}
use Rattle.reading.proofs.is_line.Goals as goal

pub loop-b-init : goal.loop-b-init
unfolding every
loop-b-init c = search rules

pub loop-b-preserved : goal.loop-b-preserved
loop-b-preserved c =
    let i = c.loop-b.b-index in
    let long = length-take-le c.args.digits c.args.line.now (omega arith) in
    let same = ap is_digit (get_or-take c.args.digits c.args.line.now i 0 (omega arith)) in
    every_more _ _ _ _ c.loop-b.invariant (c.is_digit-good.ensures ∙ same)

pub returns : goal.returns
unfolding is_line
returns c =
    let long = length-take-le c.args.digits c.args.line.now (omega arith) in
    let all : c.loop-b.b-index ≡ c.args.digits = omega arith in
    let so_far : c.loop-b.good ≡ every (λ i. is_digit (get_or c.args.line.now i 0)) c.loop-b.b-index = c.loop-b.invariant in
    rw (so_far, all)
