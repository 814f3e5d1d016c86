-- `run_admitted` meets its contract: where nothing is refused the run decides, and it is on a copy of the store, which is put back at the end.
use mathlib.Core.Path.{sym, ap, ◌∙◌}
use lib.ListN.{length}
use Rattle.rules.proofs.EndedLaws.{ends_unrefused}
use Rattle.code.specs.CodeRun.{code_run}
use Rattle.code.specs.inside.Running.{Admitted}
use Rattle.code.proofs.Checks.{admitted}
use Rattle.code.proofs.run_admitted.Goals as goal

pub taken-values-requires : goal.taken-values-requires
taken-values-requires c = (admitted _ _ _ _ c.requires).store

pub run_from-ran-requires : goal.run_from-ran-requires
run_from-ran-requires c =
    let s : Admitted c.args.table.now c.args.code.now c.args.store.now = admitted _ _ _ _ c.requires in
    record { table = s.table; code = s.code; store = ap length c.taken-values.ensures ∙ s.store }

pub returns : goal.returns
unfolding code_run
returns c =
    rw c.put_back.ensures
    ((rw c.taken-values.ensures at c.run_from-ran.ensures)
    ∙ sym (ends_unrefused _ _ _ c.requires))
