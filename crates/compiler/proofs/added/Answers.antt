-- `added` gives what a kind adds, by its number. Assumes nothing.
use mathlib.Core.Path.{refl}
use native.Mathlib.Omega.{arith}
use borrow.Author.Tests.{ne_eqb}
use Rattle.compiler.proofs.Counting.{adds_by_lem}
use Rattle.compiler.proofs.added.Goals as goal

pub returns-in-33 : goal.returns-in-33
returns-in-33 c = rw (← adds_by_lem c.args.kind, c.in-33.is) (refl, omega arith)

pub returns-in-35 : goal.returns-in-35
returns-in-35 c = rw (← adds_by_lem c.args.kind, c.in-35.is) (refl, omega arith)

pub returns-in-36 : goal.returns-in-36
returns-in-36 c = rw (← adds_by_lem c.args.kind, c.in-36.is) (refl, omega arith)

pub returns-in_default : goal.returns-in_default
returns-in_default c =
    rw (← adds_by_lem c.args.kind)
    (rw (ne_eqb c.args.kind 33 (λ e. omega arith), ne_eqb c.args.kind 35 (λ e. omega arith), ne_eqb c.args.kind 36 (λ e. omega arith))
    (refl, omega arith))
