-- `tokens::quick::parted` meets its contract.
use Rattle.tokens.proofs.QuickLaws.{quick_parted}
use Rattle.tokens.proofs.quick.parted.Goals as goal

pub returns : goal.returns
returns c = quick_parted c.requires c.word_goes_on.ensures c.if-word_goes_on.false
