-- `worked::lines::run` ends: the measure is what is left of the text.
use Rattle.std.proofs.Common.{length}
use Rattle.worked.proofs.lines.run.Given as goal

abbrev pub decreases-loop-end : goal.decreases-loop-end
decreases-loop-end g l = length l.rest
