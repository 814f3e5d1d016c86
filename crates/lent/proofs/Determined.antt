-- The contract of each function admits one answer, and `put_back`'s one content of the store.
use mathlib.Core.Path.{◌≡◌, sym, ◌∙◌}
use contract.Lifetimes.{Lfts}
use denote.Triple.Clauses.{AtExit}
use borrow.Fn.Kinds.{Dens, ended_of}
use Rattle.rules.proofs.OneAnswer.{OneAnswer}
use Rattle.lent.proofs.word.Kinds as word-kinds
use Rattle.lent.proofs.word.Reads as word
use Rattle.lent.proofs.place.Kinds as place-kinds
use Rattle.lent.proofs.place.Reads as place
use Rattle.lent.proofs.part.Kinds as part-kinds
use Rattle.lent.proofs.part.Reads as part
use Rattle.lent.proofs.taken.Kinds as taken-kinds
use Rattle.lent.proofs.taken.Reads as taken
use Rattle.lent.proofs.put_back.Kinds as put-back-kinds
use Rattle.lent.proofs.put_back.Reads as put_back

pub word_determined : OneAnswer 2 word-kinds.ps word-kinds.r word.Post
word_determined κs a x y s t p q = p ∙ sym q

pub place_determined : OneAnswer 2 place-kinds.ps place-kinds.r place.Post
place_determined κs a x y s t p q = p ∙ sym q

pub part_determined : OneAnswer 1 part-kinds.ps part-kinds.r part.Post
part_determined κs a x y s t p q = p ∙ sym q

pub taken_determined : OneAnswer 1 taken-kinds.ps taken-kinds.r taken.Post
taken_determined κs a x y s t p q = p ∙ sym q

pub put_back_determined : (κs : Lfts 2) (a : Dens κs put-back-kinds.ps) (s t : AtExit (ended_of 2 put-back-kinds.ps put-back-kinds.r) κs)
    → put_back.Post κs a tt s → put_back.Post κs a tt t → s.0.now ≡ t.0.now
put_back_determined κs a s t p q = p ∙ sym q
