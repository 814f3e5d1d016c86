-- `put_words` meets its contract. The loop's invariant: the digits of the first i words are stored.
use Rattle.std.proofs.Common.{◌≡◌, ◌+◌, ◌-◌, ◌*◌, length, refl, sym, ◌∙◌, arith}
use Rattle.rules.specs.Lists.{joined}
use Rattle.rules.proofs.ListLaws.{sets_whole}
use Rattle.writing.specs.inside.Parts.{digits_of_words}
use Rattle.writing.proofs.WriteSteps.{length_digits_of_words, word_stored}
use Rattle.writing.proofs.put_words.Goals as goal

pub loop-i-init : goal.loop-i-init
unfolding joined
loop-i-init c = (refl, refl)

pub loop-i-preserved : goal.loop-i-preserved
loop-i-preserved c =
    let l = c.loop-i in
    let eight : 8 * l.i + 8 - 8 * l.i ≡ 8 = omega arith in
    let put = word_stored _ l.room _ _ _ l.i l.invariant.1 c.put_word.ensures (omega (arith, l.invariant.0, c.requires)) refl in
    rw eight (put.0 ∙ l.invariant.0, put.1)

pub returns : goal.returns
unfolding digits_of_words
returns c =
    let all : c.loop-i.i ≡ length c.args.words.now = omega arith in
    rw (c.loop-i.invariant.1, all) (sets_whole _ _ (length_digits_of_words c.args.words.now ∙ sym c.requires))
