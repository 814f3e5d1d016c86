-- `word` meets its contract: the lanes write the word.
use Rattle.reading.proofs.Folding.{word_of_bytes}
use Rattle.reading.proofs.word.Goals as goal

pub returns : goal.returns
returns c = rw c.from_be_bytes-x.ensures (word_of_bytes c.args.b.now c.requires)
