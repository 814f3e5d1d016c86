-- `put_word` meets its contract. The loop's invariant: with the digits of the bytes above, what is stored is the whole word.
use Rattle.std.proofs.Common.{◌≡◌, ◌/◌, refl, sym, ◌∙◌, arith}
use Rattle.std.proofs.Math.ListN.{length-set}
use Rattle.rules.specs.Text.{digits_of}
use Rattle.rules.proofs.ListLaws.{sets_whole}
use Rattle.rules.proofs.DigitLaws.{length_digits_of}
use Rattle.writing.proofs.WriteSteps.{pair_stored}
use Rattle.writing.proofs.put_word.Goals as goal

pub loop-i-init : goal.loop-i-init
loop-i-init c =
    let whole : c.args.word / 1 ≡ c.args.word = omega arith in
    (refl, rw whole)

pub loop-i-preserved : goal.loop-i-preserved
loop-i-preserved c =
    let l = c.loop-i in
    let put = pair_stored l.room c.pair.result c.args.word l.i c.loop-i-test.true (rw c.to_le_bytes.ensures at c.pair.ensures) in
    (simp length-set l.invariant.0, put ∙ l.invariant.1)

pub returns : goal.returns
unfolding digits_of
returns c =
    let all : c.loop-i.i ≡ 4 = omega arith in
    (rw all at c.loop-i.invariant.1) ∙ sets_whole _ _ (length_digits_of 8 c.args.word ∙ sym c.requires)
