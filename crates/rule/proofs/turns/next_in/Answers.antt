-- `rule::turns::next_in` meets its contract.
use mathlib.Core.Path.{◌≡◌}
use native.Mathlib.Omega.{arith}
use borrow.Author.Rules.{rules}
use Rattle.std.specs.Prelude.{Err}
use Rattle.rule.proofs.ReadLaws.{next_stuck, next_either}
use Rattle.rule.proofs.turns.next_in.Goals as goal

pub returns-then-text-at : goal.returns-then-text-at
returns-then-text-at c = next_either _ _ _ _ c.if-text-at.true _ c.next_at_end.ensures

pub returns-in_err-t : goal.returns-in_err-t
returns-in_err-t c =
    let l = c.if-text-at.false in
    let told : c.from_residual.result ≡ Err c.in_err-t.field-0.0 = search rules in
    rw told (next_stuck c.in_err-t.ensures (omega arith))
