-- `run_code` meets its contract: a refusal leaves the store alone, and otherwise the run decides.
use mathlib.Core.Path.{◌≡◌, sym, ◌∙◌}
use borrow.Author.Rules.{rules}
use Rattle.std.specs.Prelude.{Err}
use Rattle.rules.specs.StoreRefusal.{store_refusal}
use Rattle.rules.proofs.EndedLaws.{ends_refused}
use Rattle.code.specs.CodeRun.{code_run_refusal, code_run}
use Rattle.table.proofs.Answer.{answer_done, answer_refused}
use Rattle.code.proofs.run_code.Goals as goal

-- where nothing is refused
pub run_admitted-requires : goal.run_admitted-requires
unfolding code_run_refusal store_refusal
run_admitted-requires c = answer_done _ (sym c.in_ok-admit.was ∙ c.admit.ensures)

pub returns-in_err-admit : goal.returns-in_err-admit
unfolding code_run code_run_refusal store_refusal
returns-in_err-admit c =
    let told : c.from_residual.result ≡ Err c.in_err-admit.field-0.0 = search rules in
    rw told (sym (ends_refused _ _ _ (answer_refused _ _ (sym c.in_err-admit.was ∙ c.admit.ensures))))
