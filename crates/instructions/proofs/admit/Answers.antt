-- `admit` meets its contract: each way out is the first refusal in 01's order.
use mathlib.Core.Path.{◌≡◌, sym, ap, ◌∙◌}
use mathlib.Core.Bool.{not}
use native.Mathlib.Omega.{arith}
use borrow.Author.Rules.{rules}
use Rattle.std.specs.Prelude.{Err}
use Rattle.table.proofs.Answer.{accepted, refused}
use Rattle.instructions.proofs.Order.{refused_table, refused_store, code_decides}
use Rattle.instructions.proofs.admit.Goals as goal

pub returns-in_err-check : goal.returns-in_err-check
returns-in_err-check c =
    let told : c.from_residual.result ≡ Err c.in_err-check.field-0.0 = search rules in
    told ∙ sym (refused_table _ _ _ _ _ (refused _ c.check.ensures _ c.in_err-check.was))

pub returns-then-not-fits : goal.returns-then-not-fits
returns-then-not-fits c = ap Err c.at.ensures ∙ sym (refused_store _ _ _ _ (accepted _ c.check.ensures c.in_ok-check.was) (ap not c.if-not-fits.true))

pub returns : goal.returns
returns c =
    c.check_code.ensures ∙ sym (code_decides _ _ _ _ (accepted _ c.check.ensures c.in_ok-check.was) (ap not c.if-not-fits.false) (omega arith))
