-- `tokens::scan::scan_number` meets its contract.
use Rattle.tokens.proofs.CodeLaws.{no_number, number_goes_on, scanned_number}
use Rattle.tokens.proofs.scan.scan_number.Goals as goal

pub returns-then-not-allowed : goal.returns-then-not-allowed
returns-then-not-allowed c =
    no_number _ _ _ c.requires.1 c.allowed.ensures c.if-not-allowed.true

pub returns-then-word_goes_on : goal.returns-then-word_goes_on
returns-then-word_goes_on c =
    number_goes_on _ _ _ c.allowed.ensures c.if-not-allowed.false c.number-n.ensures.1 c.word_goes_on.ensures c.if-word_goes_on.true

pub returns : goal.returns
returns c =
    rw c.number-n.ensures.0
    (scanned_number _ _ _ c.allowed.ensures c.if-not-allowed.false c.number-n.ensures.1 c.word_goes_on.ensures c.if-word_goes_on.false)
