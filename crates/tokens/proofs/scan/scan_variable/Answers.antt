-- `tokens::scan::scan_variable` meets its contract.
use Rattle.tokens.proofs.CodeLaws.{no_variable, v_alone, variable_goes_on, scanned_variable}
use Rattle.tokens.proofs.scan.scan_variable.Goals as goal

pub returns-then-not-allowed : goal.returns-then-not-allowed
returns-then-not-allowed c =
    no_variable _ _ _ c.requires.1 c.allowed.ensures c.if-not-allowed.true

pub returns-in_default : goal.returns-in_default
returns-in_default c =
    v_alone _ _ _ c.requires.1 c.allowed.ensures c.if-not-allowed.false c.in_default.ensures.bare

pub returns-then-word_goes_on : goal.returns-then-word_goes_on
returns-then-word_goes_on c =
    variable_goes_on _ _ _ c.requires.1 c.allowed.ensures c.if-not-allowed.false c.in-Some.ensures.there.1 c.word_goes_on.ensures c.if-word_goes_on.true

pub returns : goal.returns
returns c =
    rw c.in-Some.ensures.there.0
    (scanned_variable _ _ _ c.requires.1 c.allowed.ensures c.if-not-allowed.false c.in-Some.ensures.there.1 c.word_goes_on.ensures c.if-word_goes_on.false)
