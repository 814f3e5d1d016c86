-- `rule::read` meets its contract.
use mathlib.Core.Path.{◌≡◌, refl}
use native.Mathlib.Omega.{arith}
use borrow.Author.Rules.{rules}
use Rattle.std.specs.Prelude.{Err}
use Rattle.rule.proofs.EndLaws.{midway_read, before_turn, midway_on, whole_told}
use Rattle.rule.proofs.ReadLaws.{starts, stuck_told, turn_told}
use Rattle.rule.proofs.read.Goals as goal

pub loop-at-init : goal.loop-at-init
loop-at-init c = midway_read (starts refl refl c.requires refl refl refl) c.skip_blanks-at.ensures

pub advance-requires : goal.advance-requires
advance-requires c =
    let shared-slice-known = c.shared_slice_known-1 in
    before_turn c.loop-at.invariant c.loop-at-test.true (let g = shared-slice-known.given in omega arith)

pub returns-in_err-end : goal.returns-in_err-end
returns-in_err-end c =
    let told : c.from_residual.result ≡ Err c.in_err-end.field-0.0 = search rules in
    rw told (stuck_told _ _ c.advance.result c.map_err.result c.map_err.ensures.cases c.in_err-end.was c.advance.ensures)

pub loop-at-smaller : goal.loop-at-smaller
loop-at-smaller c =
    let T = turn_told _ _ _ c.advance.result c.map_err.result c.map_err.ensures.cases c.in_ok-end.was c.advance.ensures in
    let m = (midway_on T c.skip_blanks-at-in-loop-at.ensures).1 in
    let h = c.loop-at-test.true in
    omega arith

pub loop-at-preserved : goal.loop-at-preserved
loop-at-preserved c =
    let T = turn_told _ _ _ c.advance.result c.map_err.result c.map_err.ensures.cases c.in_ok-end.was c.advance.ensures in
    (midway_on T c.skip_blanks-at-in-loop-at.ensures).0

pub returns : goal.returns
returns c = let h = c.loop-at-test.false in whole_told (c.loop-at.invariant.after (omega arith)) c.finish.ensures
