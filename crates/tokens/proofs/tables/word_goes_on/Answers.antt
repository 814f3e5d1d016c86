-- `tokens::tables::word_goes_on` meets its contract.
use Rattle.tokens.specs.Quick.{word_class}
use Rattle.tokens.proofs.QuickLaws.{word_next}
use Rattle.tokens.proofs.CodeLaws.{word_ends}
use Rattle.tokens.proofs.tables.word_goes_on.Goals as goal

pub returns-then-text-end : goal.returns-then-text-end
returns-then-text-end c = word_ends _ _ c.if-text-end.true

pub returns : goal.returns
unfolding word_class
returns c =
    let if1 = c.if-text-end in
    word_next _ _ if1.false c.class_of.ensures
