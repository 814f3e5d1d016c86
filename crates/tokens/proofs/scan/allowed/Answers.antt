-- `tokens::scan::allowed` meets its contract.
use Rattle.tokens.proofs.CodeLaws.{may_is}
use Rattle.tokens.proofs.scan.allowed.Goals as goal

pub returns : goal.returns
returns c = may_is _ _ _ _ _ c.locate-p.ensures
