-- `rule::turns::next_at_end` meets its contract.
use mathlib.Core.Path.{refl}
use native.Mathlib.Omega.{arith}
use Rattle.rule.proofs.EndLaws.{wanting_open, frames_open, nothing_open}
use Rattle.rule.proofs.turns.next_at_end.Goals as goal

pub returns-then-s-ne6 : goal.returns-then-s-ne6
returns-then-s-ne6 c = wanting_open c.if-s-ne6.true

pub returns-then-open : goal.returns-then-open
returns-then-open c =
    let if1 = c.if-s-ne6 in
    let locate = c.locate-p in
    let o = c.if-open.true in frames_open if1.false locate.ensures (λ e. omega arith)

pub returns : goal.returns
returns c =
    let if1 = c.if-s-ne6 in
    let locate = c.locate-p in
    let o = c.if-open.false in nothing_open if1.false locate.ensures (omega arith) refl refl refl
