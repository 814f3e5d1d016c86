-- `check_all` meets its contract: the checks of a code run come first, and that of the room last.
use mathlib.Core.Path.{◌≡◌, ap, sym, ◌∙◌}
use borrow.Author.Rules.{rules}
use Rattle.std.specs.Prelude.{Err}
use Rattle.table.proofs.Answer.{answer_done, answer_refused}
use Rattle.depot.proofs.Checks.{refused_before, refused_room, all_checked}
use Rattle.depot.proofs.check_all.Goals as goal

pub returns-in_err-admit : goal.returns-in_err-admit
returns-in_err-admit c =
    let told : c.from_residual.result ≡ Err c.in_err-admit.field-0.0 = search rules in
    told ∙ sym (refused_before _ (answer_refused _ _ (sym c.in_err-admit.was ∙ c.admit.ensures)))

pub returns-then-short : goal.returns-then-short
returns-then-short c = ap Err c.at.ensures ∙ sym (refused_room _ (answer_done _ (sym c.in_ok-admit.was ∙ c.admit.ensures)) c.if-short.true)

pub returns : goal.returns
returns c = sym (all_checked _ (answer_done _ (sym c.in_ok-admit.was ∙ c.admit.ensures)) c.if-short.false)
