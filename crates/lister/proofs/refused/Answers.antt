-- `refused` writes the line of the refusal: text of two words a line.
use native.Mathlib.Omega.{arith}
use Rattle.lister.proofs.Endings.{line_listed, number_told}
use Rattle.lister.proofs.refused.Goals as goal

pub returns : goal.returns
returns c = number_told _ (omega arith) (line_listed _ _ _ _ _ (omega arith) c.write_pairs.ensures)
