-- What an export ensures is what the call of its name in `boundary` ensures, so what `promises` and `boundary` prove of those holds of the C functions.
use contract.Lifetimes.{Lfts}
use denote.Triple.Clauses.{AtExit}
use borrow.Fn.Kinds.{Dens, ended_of}
use Rattle.boundary.proofs.rill_check.Reads as check_reads
use Rattle.boundary.proofs.rill_compile.Reads as compile_reads
use Rattle.boundary.proofs.rill_run_source.Reads as run_source_reads
use Rattle.boundary.proofs.rill_run_code.Reads as run_code_reads
use Rattle.boundary.proofs.rill_run_depot.Reads as run_depot_reads
use Rattle.boundary.proofs.rill_read_text.Reads as read_text_reads
use Rattle.boundary.proofs.rill_write_text.Reads as write_text_reads
use Rattle.boundary.proofs.rill_read_rule.Reads as read_rule_reads
use Rattle.boundary_c.proofs.rill_check.Kinds as check_kinds
use Rattle.boundary_c.proofs.rill_check.Reads as exported_check_reads
use Rattle.boundary_c.proofs.rill_compile.Kinds as compile_kinds
use Rattle.boundary_c.proofs.rill_compile.Reads as exported_compile_reads
use Rattle.boundary_c.proofs.rill_run_source.Kinds as run_source_kinds
use Rattle.boundary_c.proofs.rill_run_source.Reads as exported_run_source_reads
use Rattle.boundary_c.proofs.rill_run_code.Kinds as run_code_kinds
use Rattle.boundary_c.proofs.rill_run_code.Reads as exported_run_code_reads
use Rattle.boundary_c.proofs.rill_run_depot.Kinds as run_depot_kinds
use Rattle.boundary_c.proofs.rill_run_depot.Reads as exported_run_depot_reads
use Rattle.boundary_c.proofs.rill_read_text.Kinds as read_text_kinds
use Rattle.boundary_c.proofs.rill_read_text.Reads as exported_read_text_reads
use Rattle.boundary_c.proofs.rill_write_text.Kinds as write_text_kinds
use Rattle.boundary_c.proofs.rill_write_text.Reads as exported_write_text_reads
use Rattle.boundary_c.proofs.rill_read_rule.Kinds as read_rule_kinds
use Rattle.boundary_c.proofs.rill_read_rule.Reads as exported_read_rule_reads

pub rill_check_same : (κs : Lfts 2) (a : Dens κs check_kinds.ps) (s : AtExit (ended_of 2 check_kinds.ps check_kinds.r) κs)
    → exported_check_reads.Post κs a tt s → check_reads.Post κs a tt s
rill_check_same κs a s p = p

pub rill_compile_same : (κs : Lfts 3) (a : Dens κs compile_kinds.ps) (s : AtExit (ended_of 3 compile_kinds.ps compile_kinds.r) κs)
    → exported_compile_reads.Post κs a tt s → compile_reads.Post κs a tt s
rill_compile_same κs a s p = p

pub rill_run_source_same : (κs : Lfts 3) (a : Dens κs run_source_kinds.ps) (s : AtExit (ended_of 3 run_source_kinds.ps run_source_kinds.r) κs)
    → exported_run_source_reads.Post κs a tt s → run_source_reads.Post κs a tt s
rill_run_source_same κs a s p = p

pub rill_run_code_same : (κs : Lfts 4) (a : Dens κs run_code_kinds.ps) (s : AtExit (ended_of 4 run_code_kinds.ps run_code_kinds.r) κs)
    → exported_run_code_reads.Post κs a tt s → run_code_reads.Post κs a tt s
rill_run_code_same κs a s p = p

pub rill_run_depot_same : (κs : Lfts 5) (a : Dens κs run_depot_kinds.ps) (s : AtExit (ended_of 5 run_depot_kinds.ps run_depot_kinds.r) κs)
    → exported_run_depot_reads.Post κs a tt s → run_depot_reads.Post κs a tt s
rill_run_depot_same κs a s p = p

pub rill_read_text_same : (κs : Lfts 3) (a : Dens κs read_text_kinds.ps) (s : AtExit (ended_of 3 read_text_kinds.ps read_text_kinds.r) κs)
    → exported_read_text_reads.Post κs a tt s → read_text_reads.Post κs a tt s
rill_read_text_same κs a s p = p

pub rill_write_text_same : (κs : Lfts 3) (a : Dens κs write_text_kinds.ps) (s : AtExit (ended_of 3 write_text_kinds.ps write_text_kinds.r) κs)
    → exported_write_text_reads.Post κs a tt s → write_text_reads.Post κs a tt s
rill_write_text_same κs a s p = p

pub rill_read_rule_same : (κs : Lfts 3) (a : Dens κs read_rule_kinds.ps) (s : AtExit (ended_of 3 read_rule_kinds.ps read_rule_kinds.r) κs)
    → exported_read_rule_reads.Post κs a tt s → read_rule_reads.Post κs a tt s
rill_read_rule_same κs a s p = p
