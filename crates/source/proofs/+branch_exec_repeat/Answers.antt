-- The statements meet their contracts: each arm's whole effect is one law of Statements. m is the measure of the call: twice the node's number, and
-- one more in `exec`.
use native.Mathlib.Omega.{arith as linear}
use mathlib.Core.Path.{◌≡◌, ap, sym, ◌∙◌}
use mathlib.Core.List.{List}
use Prim.Native.Nat.{ℕ, ◌-◌, ◌<◌}
use lib.Dec.{lit<}
use Rattle.rules.specs.Lists.{fetch}
use Rattle.rules.specs.Table.{Kind, field, kind_of, row_of, statement}
use Rattle.rules.proofs.KindLaws.{statement_range}
use Rattle.evaluate.specs.Ready.{Ready}
use Rattle.evaluate.proofs.Nodes.{word_inside, down, child_ready}
use Rattle.source.specs.inside.Ran.{Of, runs}
use Rattle.source.proofs.Statements.{of_kind, left_most, ran_as, since, tested}
use Rattle.source.proofs.Statements.{skip_ran, first_done, first_stopped}
use Rattle.source.proofs.Statements.{if_spent, if_false, if_true}
use Rattle.source.proofs.Statements.{loop_spent, loop_ends, loop_stops, loop_goes_on}
use Rattle.source.proofs.+branch_exec_repeat.Goals as goal

-- ---- `branch`: past the first test the if's own unit can be paid

pub branch-returns-then-credit-eq1 : goal.branch-returns-then-credit-eq1
branch-returns-then-credit-eq1 m c = rw c.if-credit-eq1.true (if_spent (of_kind c.requires.0) c.args.s.now)

pub branch-place-requires : goal.branch-place-requires
branch-place-requires m c = word_inside c.requires.0.ready 1 (lit< tt)

pub branch-boolean-requires : goal.branch-boolean-requires
unfolding row_of
branch-boolean-requires m c = child_ready c.requires.0.ready c.place.ensures (of_kind c.requires.0).first

pub branch-place-requires-then-boolean : goal.branch-place-requires-then-boolean
branch-place-requires-then-boolean m c = word_inside c.requires.0.ready 2 (lit< tt)

pub branch-exec-requires : goal.branch-exec-requires
unfolding row_of
branch-exec-requires m c =
    let some : 0 < c.args.credit - 1 = omega linear in
    let child = down c.requires.0.ready c.place-then-boolean.ensures (of_kind c.requires.0).second (omega linear) in
    (child.0, (child.1, some))

pub branch-place-requires-else-boolean : goal.branch-place-requires-else-boolean
branch-place-requires-else-boolean m c = word_inside c.requires.0.ready 3 (lit< tt)

pub branch-exec-requires-else-boolean : goal.branch-exec-requires-else-boolean
unfolding row_of
branch-exec-requires-else-boolean m c =
    let some : 0 < c.args.credit - 1 = omega linear in
    let child = down c.requires.0.ready c.place-else-boolean.ensures (of_kind c.requires.0).third (omega linear) in
    (child.0, (child.1, some))

pub branch-returns-then-boolean : goal.branch-returns-then-boolean
branch-returns-then-boolean m c =
    rw c.saturating_sub.ensures
    (if_true (of_kind c.requires.0) (omega linear)
    (tested c.args.t.now.now c.args.s.now c.boolean.ensures c.place.ensures c.if-boolean.true)
    _ (ran_as c.exec.ensures c.place-then-boolean.ensures))

pub branch-returns-else-boolean : goal.branch-returns-else-boolean
branch-returns-else-boolean m c =
    if_false (of_kind c.requires.0) (omega linear)
    (tested c.args.t.now.now c.args.s.now c.boolean.ensures c.place.ensures c.if-boolean.false)
    (ran_as c.exec-else-boolean.ensures c.place-else-boolean.ensures)

-- ---- `exec`: the node's kind, by the number that was read

module _ {t : List ℕ} {n k : ℕ} (ready : Ready t n statement) (read : k ≡ field t n 0) where
  kind_is : (kind : Kind) → kind_of k ≡ kind → Of t n kind
  kind_is kind e = record { ready = ready; kind = ap kind_of (sym read) ∙ e }

  a_skip : k ≡ 32 → Of t n Kind.skip
  unfolding kind_of fetch
  a_skip e = kind_is Kind.skip (ap kind_of e)

  an_assign : k ≡ 33 → Of t n Kind.assign
  unfolding kind_of fetch
  an_assign e = kind_is Kind.assign (ap kind_of e)

  a_sequence : k ≡ 34 → Of t n Kind.sequence
  unfolding kind_of fetch
  a_sequence e = kind_is Kind.sequence (ap kind_of e)

  an_if : k ≡ 35 → Of t n Kind.if
  unfolding kind_of fetch
  an_if e = kind_is Kind.if (ap kind_of e)

  -- the last kind of its class
  a_while : (k ≡ 32 → ⊥) → (k ≡ 33 → ⊥) → (k ≡ 34 → ⊥) → (k ≡ 35 → ⊥) → Of t n Kind.while
  unfolding kind_of fetch
  a_while a b c d =
      let range = statement_range (field t n 0) ready.class in
      let last : k ≡ 36 = omega (linear, range.0, range.1) in
      kind_is Kind.while (ap kind_of last)

pub exec-word-k-requires : goal.exec-word-k-requires
exec-word-k-requires m c = word_inside c.requires.0 0 (lit< tt)

pub exec-assign-requires : goal.exec-assign-requires
exec-assign-requires m c = (an_assign c.requires.0 c.word-k.ensures c.in-33.is, c.requires.1)

pub exec-place-requires : goal.exec-place-requires
exec-place-requires m c = word_inside c.requires.0 1 (lit< tt)

pub exec-exec-left-requires : goal.exec-exec-left-requires
unfolding row_of
exec-exec-left-requires m c =
    let known = of_kind (a_sequence c.requires.0 c.word-k.ensures c.in-34.is) in
    let child = down c.requires.0 c.place.ensures known.first (omega linear) in
    (child.0, (child.1, c.requires.1))

pub exec-returns-then-left-eq0 : goal.exec-returns-then-left-eq0
exec-returns-then-left-eq0 m c =
    let known = of_kind (a_sequence c.requires.0 c.word-k.ensures c.in-34.is) in
    first_stopped known (rw c.if-left-eq0.true at (ran_as c.exec-left.ensures c.place.ensures))

pub exec-place-requires-in-34 : goal.exec-place-requires-in-34
exec-place-requires-in-34 m c = word_inside c.requires.0 2 (lit< tt)

pub exec-exec-requires : goal.exec-exec-requires
unfolding row_of
exec-exec-requires m c =
    let known = of_kind (a_sequence c.requires.0 c.word-k.ensures c.in-34.is) in
    let some : 0 < c.exec-left.result = omega linear in
    let child = down c.requires.0 c.place-in-34.ensures known.second (omega linear) in
    (child.0, (child.1, some))

pub exec-branch-t-requires : goal.exec-branch-t-requires
exec-branch-t-requires m c = (omega linear, (an_if c.requires.0 c.word-k.ensures c.in-35.is, c.requires.1))

pub exec-repeat-requires : goal.exec-repeat-requires
exec-repeat-requires m c =
    (omega linear, (a_while c.requires.0 c.word-k.ensures (omega linear) (omega linear) (omega linear) (omega linear), c.requires.1))

pub exec-returns-in-32 : goal.exec-returns-in-32
exec-returns-in-32 m c = skip_ran (of_kind (a_skip c.requires.0 c.word-k.ensures c.in-32.is)) c.args.s.now c.requires.1

pub exec-returns-else-left-eq0 : goal.exec-returns-else-left-eq0
exec-returns-else-left-eq0 m c =
    let known = of_kind (a_sequence c.requires.0 c.word-k.ensures c.in-34.is) in
    first_done known (ran_as c.exec-left.ensures c.place.ensures) (omega linear) (ran_as c.exec.ensures c.place-in-34.ensures)

-- ---- `repeat`: a pass leaves less than it had

pub repeat-place-b-requires : goal.repeat-place-b-requires
repeat-place-b-requires m c = word_inside c.requires.0.ready 1 (lit< tt)

pub repeat-place-body-requires : goal.repeat-place-body-requires
repeat-place-body-requires m c = word_inside c.requires.0.ready 2 (lit< tt)

pub repeat-boolean-requires : goal.repeat-boolean-requires
unfolding row_of
repeat-boolean-requires m c = child_ready c.requires.0.ready c.place-b.ensures (of_kind c.requires.0).first

pub repeat-returns-then-not-boolean : goal.repeat-returns-then-not-boolean
repeat-returns-then-not-boolean m c =
    since c.loop-left.invariant.2
    (loop_ends (of_kind c.requires.0) (omega linear)
    (tested c.args.t.now.now c.loop-left.s c.boolean.ensures c.place-b.ensures c.if-not-boolean.true))

pub repeat-exec-more-requires : goal.repeat-exec-more-requires
unfolding row_of
repeat-exec-more-requires m c =
    let some : 0 < c.loop-left.left - 1 = omega linear in
    let child = down c.requires.0.ready c.place-body.ensures (of_kind c.requires.0).second (omega linear) in
    (child.0, (child.1, some))

pub repeat-returns-then-more-le1 : goal.repeat-returns-then-more-le1
repeat-returns-then-more-le1 m c =
    since c.loop-left.invariant.2
    (loop_stops (of_kind c.requires.0) (omega linear) _
    (tested c.args.t.now.now c.loop-left.s c.boolean.ensures c.place-b.ensures c.if-not-boolean.false)
    (ran_as c.exec-more.ensures c.place-body.ensures) c.if-more-le1.true)

pub repeat-loop-left-smaller : goal.repeat-loop-left-smaller
repeat-loop-left-smaller m c = omega (linear, left_most _ c.exec-more.ensures (omega linear))

pub repeat-loop-left-preserved : goal.repeat-loop-left-preserved
repeat-loop-left-preserved m c = (
  omega linear,
  omega (linear, left_most _ c.exec-more.ensures (omega linear)),
  c.loop-left.invariant.2
      ∙ loop_goes_on (of_kind c.requires.0) (omega linear) _
      (tested c.args.t.now.now c.loop-left.s c.boolean.ensures c.place-b.ensures c.if-not-boolean.false)
      (ran_as c.exec-more.ensures c.place-body.ensures) c.if-more-le1.false,
)

pub repeat-returns : goal.repeat-returns
repeat-returns m c =
    let last : c.loop-left.left ≡ 1 = omega linear in
    since (c.loop-left.invariant.2 ∙ ap (λ k. runs c.args.t.now.now c.args.n k c.loop-left.s) last) (loop_spent (of_kind c.requires.0) c.loop-left.s)
