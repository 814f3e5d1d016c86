-- `rises` meets its contract.
use mathlib.Core.Path.{sym}
use native.Mathlib.Omega.{arith}
use Rattle.rules.proofs.FetchLaws.{rises_first, rises_later}
use Rattle.instructions.proofs.rises.Goals as goal

pub returns-then-k-eq0 : goal.returns-then-k-eq0
returns-then-k-eq0 c = sym (rises_first _ _ c.if-k-eq0.true)

pub returns : goal.returns
returns c = rw (c.part-2.ensures, c.part.ensures) (sym (rises_later _ _ (omega arith)))
