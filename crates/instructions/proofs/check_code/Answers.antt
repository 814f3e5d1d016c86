-- `check_code` meets its contract. The loop's invariant: no instruction passed is against the rules.
use mathlib.Core.Path.{sym, ap, ◌∙◌}
use native.Mathlib.Omega.{arith}
use Rattle.std.specs.Prelude.{Err}
use borrow.Author.Tests.{eqb-false}
use Rattle.rules.specs.Refusal.{fine}
use Rattle.rules.specs.CodeWords.{whole_code}
use Rattle.rules.proofs.FetchLaws.{refused_count, refused_at, not_refused}
use Rattle.table.specs.Checking.{answer}
use Rattle.instructions.proofs.check_code.Goals as goal

pub returns-then-not-whole : goal.returns-then-not-whole
unfolding answer whole_code
returns-then-not-whole c = ap Err c.at.ensures ∙ sym (ap answer (refused_count _ _ c.if-not-whole.true))

pub returns-then-not-obeys : goal.returns-then-not-obeys
unfolding answer whole_code
returns-then-not-obeys c =
    let fault = eqb-false _ fine (sym c.obeys.ensures ∙ c.if-not-obeys.true) in
    ap Err c.at-then-not-obeys.ensures
    ∙ sym (ap answer (refused_at _ _ c.if-not-whole.false _ (omega arith) fault c.loop-k.invariant))

pub returns : goal.returns
unfolding answer whole_code
returns c =
    sym (ap answer (not_refused _ _ c.if-not-whole.false (λ k h. c.loop-k.invariant k (omega arith))))
