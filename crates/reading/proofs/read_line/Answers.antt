-- `read_line` meets its contract. The loop's invariant: the first i words of the line are stored.
use Rattle.std.proofs.Common.{◌≡◌, ◌+◌, ◌-◌, ◌*◌, length, ap, ◌∙◌, arith, refl}
use Rattle.std.proofs.Math.ListN.{length-set}
use Rattle.std.proofs.lemmas.List.{take-take}
use Rattle.rules.specs.Lists.{joined}
use Rattle.rules.specs.Text.{number_of}
use Rattle.rules.proofs.ListLaws.{sets_whole}
use Rattle.reading.specs.inside.Parts.{words_of_line}
use Rattle.reading.proofs.ReadSteps.{length_words_of_line, digits_of_word, word_stored}
use Rattle.reading.proofs.read_line.Goals as goal

pub loop-i-init : goal.loop-i-init
unfolding words_of_line joined
loop-i-init c = (refl, refl)

pub word-requires : goal.word-requires
word-requires c =
    let eight : 8 * c.loop-i.i + 8 - 8 * c.loop-i.i ≡ 8 = omega arith in
    digits_of_word c.args.line.now _ (length c.args.room.now) c.loop-i.i c.requires (omega arith) (rw eight refl)

pub loop-i-preserved : goal.loop-i-preserved
loop-i-preserved c =
    let l = c.loop-i in
    let eight : 8 * l.i + 8 - 8 * l.i ≡ 8 = omega arith in
    (simp length-set l.invariant.0, word_stored _ _ _ _ _ l.invariant.1 (c.word.ensures ∙ rw eight (ap (number_of 0) (take-take 8 8 _ (omega arith)))))

pub returns : goal.returns
returns c =
    let all : c.loop-i.i ≡ length c.args.room.now = omega arith in
    rw (c.loop-i.invariant.1, all) (sets_whole _ _ (length_words_of_line _ _))
