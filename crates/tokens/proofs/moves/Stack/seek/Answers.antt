-- `tokens::moves::Stack::seek` meets its contract. The loop's invariant: what is found among all frames is found among the first `i`.
use mathlib.Core.Path.{◌≡◌, refl}
use Prim.Native.Nat.{◌+◌, ◌-◌}
use native.Mathlib.Omega.{arith}
use borrow.Author.Rules.{rules}
use Rattle.tokens.proofs.ArrayLaws.{sought_found, sought_on, sought_none}
use Rattle.tokens.proofs.moves.Stack.seek.Goals as goal

pub loop-i-init : goal.loop-i-init
loop-i-init c = (refl, omega arith)

pub returns-then-a-ne1 : goal.returns-then-a-ne1
returns-then-a-ne1 c =
    let loop = c.loop-i in
    let above = c.loop-i-test.true in
    let e : loop.i - 1 + 1 ≡ loop.i = omega arith in
    rw e (sought_found _ _ _ loop.i _ _ loop.invariant above c.from.ensures c.act_of-a.ensures c.if-a-ne1.true)

pub loop-i-preserved : goal.loop-i-preserved
loop-i-preserved c =
    sought_on _ _ _ c.loop-i.i _ _ c.loop-i.invariant c.loop-i-test.true c.from.ensures c.act_of-a.ensures c.if-a-ne1.false

pub returns : goal.returns
returns c = sought_none _ _ _ c.loop-i.i c.loop-i.invariant.0 (search rules)
