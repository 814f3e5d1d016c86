-- `find` meets its contract: a first look, and halving where it finds nothing.
use native.Mathlib.Omega.{arith}
use Rattle.code.proofs.Places.{below_first}
use Rattle.code.proofs.labels.Code.find.Goals as goal

pub returns-then-label-first : goal.returns-then-label-first
returns-then-label-first c = below_first _ c.args.self.now.rising (omega (arith, c.part-first.ensures))
