-- `compile` checks the table, and compiles it where it is accepted. Assumes nothing.
use mathlib.Core.Path.{◌≡◌}
use Rattle.std.specs.Prelude.{Err}
use borrow.Author.Rules.{rules}
use Rattle.table.proofs.Answer.{accepted, refused}
use Rattle.compiler.proofs.Endings.{table_refused}
use Rattle.compiler.proofs.compile.Goals as goal

pub compile_accepted-requires : goal.compile_accepted-requires
compile_accepted-requires c = accepted _ c.check.ensures c.in_ok-check.was

pub returns-in_err-check : goal.returns-in_err-check
returns-in_err-check c =
    let told : c.from_residual.result ≡ Err c.in_err-check.field-0.0 = search rules in
    rw told (table_refused _ _ _ (refused _ c.check.ensures _ c.in_err-check.was))
