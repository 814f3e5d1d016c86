-- `run_depot` meets its contract: a refusal leaves stores and room alone, and otherwise the crews decide.
use mathlib.Core.Path.{◌≡◌, sym, ap, ◌∙◌}
use borrow.Author.Rules.{rules}
use Rattle.rules.specs.Answer.{ended}
use Rattle.rules.proofs.EndedLaws.{ends_refused, ends_unrefused}
use Rattle.table.proofs.Answer.{answer_done, answer_refused}
use Rattle.depot.specs.Depot.{Lent, depot}
use Rattle.depot.proofs.Refusals.{ready}
use Rattle.depot.proofs.run_depot.Goals as goal
use Rattle.std.specs.Prelude.{Ok, Err}

pub run_crews-requires : goal.run_crews-requires
run_crews-requires c = ready _ _ _ c.args.stores.now c.args.room.now (answer_done _ (sym c.in_ok-admit.was ∙ c.admit.ensures))

pub returns-in_err-admit : goal.returns-in_err-admit
unfolding depot
returns-in_err-admit c =
    let told : c.from_residual.result ≡ Err c.in_err-admit.field-0.0 = search rules in
    rw told (sym (ends_refused _ _ _ (answer_refused _ _ (sym c.in_err-admit.was ∙ c.admit.ensures))))

pub returns : goal.returns
unfolding depot
returns c =
    ap (λ (l : Lent). ended (Ok tt) l) c.run_crews.ensures ∙ sym (ends_unrefused _ _ _ (answer_done _ (sym c.in_ok-admit.was ∙ c.admit.ensures)))
