-- `run_source` meets its contract: the table's refusals, then the store's, then the run of the root's statement on a copy of the store,
-- which is put back at the end.
use mathlib.Core.Path.{◌≡◌, sym}
use native.Mathlib.Omega.{arith}
use lib.ListN.{length}
use borrow.Author.Rules.{rules}
use Rattle.std.specs.Prelude.{Err}
use Rattle.rules.proofs.TableLaws.{accepted_facts}
use Rattle.table.proofs.Answer.{accepted, refused}
use Rattle.source.proofs.Statements.{left_most}
use Rattle.source.proofs.Endings.{table_refused, store_refused, source_spent, source_finished}
use Rattle.source.proofs.run_source.Goals as goal

pub returns-in_err-check : goal.returns-in_err-check
returns-in_err-check c =
    let told : c.from_residual.result ≡ Err c.in_err-check.field-0.0 = search rules in
    rw told (sym (table_refused c.args.table.now c.args.store.now c.args.fuel (refused c.args.table.now c.check.ensures _ c.in_err-check.was)))

pub returns-then-store-ne32 : goal.returns-then-store-ne32
returns-then-store-ne32 c =
    let passed = accepted c.args.table.now c.check.ensures c.in_ok-check.was in
    rw c.at.ensures (sym (store_refused c.args.table.now c.args.store.now c.args.fuel passed c.if-store-ne32.true))

pub overflow_sub-root : goal.overflow_sub-root
overflow_sub-root c =
    let facts = accepted_facts c.args.table.now (accepted c.args.table.now c.check.ensures c.in_ok-check.was) in
    omega (arith, facts.some_nodes)

pub exec-left-requires : goal.exec-left-requires
exec-left-requires c =
    let passed = accepted c.args.table.now c.check.ensures c.in_ok-check.was in
    let facts = accepted_facts c.args.table.now passed in
    (record { accepted = passed; inside = omega (arith, facts.some_nodes); class = facts.root_statement }, omega arith)

pub returns-then-left-eq0 : goal.returns-then-left-eq0
returns-then-left-eq0 c =
    let passed = accepted c.args.table.now c.check.ensures c.in_ok-check.was in
    let values : length c.args.store.now ≡ 32 = omega arith in
    let ran = rw (c.taken-values.ensures, c.from.ensures) at c.exec-left.ensures in
    rw c.put_back.ensures (sym (source_spent c.args.table.now c.args.store.now c.args.fuel passed values (rw c.if-left-eq0.true at ran)))

-- no more is left than was given
pub overflow_cast-result : goal.overflow_cast-result
overflow_cast-result c = omega (arith, left_most _ c.exec-left.ensures (omega arith))

pub overflow_sub-result-2 : goal.overflow_sub-result-2
overflow_sub-result-2 c = omega (arith, left_most _ c.exec-left.ensures (omega arith))

pub returns : goal.returns
returns c =
    let passed = accepted c.args.table.now c.check.ensures c.in_ok-check.was in
    let values : length c.args.store.now ≡ 32 = omega arith in
    let ran = rw (c.taken-values.ensures, c.from.ensures) at c.exec-left.ensures in
    rw c.put_back.ensures (sym (source_finished c.args.table.now c.args.store.now c.args.fuel passed values _ (omega arith) ran))
