-- `rule::turns::before_phrase` meets its contract.
use mathlib.Core.Path.{◌≡◌, refl}
use native.Mathlib.Omega.{arith}
use borrow.Author.Rules.{rules}
use Rattle.std.specs.Prelude.{Err}
use Rattle.tokens.proofs.TakenLaws.{operand_taken}
use Rattle.rule.proofs.PhraseLaws.{begin_acts, begin_turned}
use Rattle.rule.proofs.PhraseLaws.{moved, operand_makes, operand_made, operand_entered, begin_ended, at_class, begin_stuck, begin_performs}
use Rattle.rule.proofs.turns.before_phrase.Goals as goal

pub returns-then-text-at : goal.returns-then-text-at
returns-then-text-at c = begin_ended c.requires.0 c.requires.1 c.if-text-at.true

pub make-requires : goal.make-requires
make-requires c =
    let l = c.if-text-at.false in
    let O = c.in-Some.ensures in
    let T = operand_taken {r = record { kind = _; number = _; end = _; place = _ }} c.if-s-eq4.true O.0 O.1 O.2 c.word_goes_on.ensures
    c.if-not-word_goes_on.true (search rules) refl (refl, refl, refl) in
    operand_makes O.1 O.2 (begin_performs c.requires.0 c.requires.1 T (omega arith)).making

pub returns-then-not-word_goes_on : goal.returns-then-not-word_goes_on
returns-then-not-word_goes_on c =
    let l = c.if-text-at.false in
    let O = c.in-Some.ensures in
    begin_turned c.requires.0 c.requires.1
    (operand_taken {r = record { kind = _; number = _; end = _; place = _ }} c.if-s-eq4.true O.0 O.1 O.2 c.word_goes_on.ensures
    c.if-not-word_goes_on.true (search rules) refl (refl, refl, refl)) (omega arith)
    (moved (operand_made O.1 O.2 c.make.ensures) (operand_entered O.1 O.2 c.stay.ensures))

pub token_wanted-requires : goal.token_wanted-requires
token_wanted-requires c =
    let l = c.if-text-at.false in at_class c.requires.0 c.requires.1 (omega arith) c.class_of-class.ensures

pub returns-in_err-t : goal.returns-in_err-t
returns-in_err-t c =
    let l = c.if-text-at.false in
    let told : c.from_residual.result ≡ Err c.in_err-t.field-0.0 = search rules in
    rw told (begin_stuck c.requires.0 c.requires.1 c.in_err-t.ensures (omega arith))

pub begin-requires : goal.begin-requires
begin-requires c =
    let l = c.if-text-at.false in (
      begin_performs c.requires.0 c.requires.1 c.in_ok-t.ensures (omega arith),
      begin_acts c.requires.0 c.requires.1 c.in_ok-t.ensures (omega arith),
    )

pub returns : goal.returns
returns c =
    let l = c.if-text-at.false in
    begin_turned c.requires.0 c.requires.1 c.in_ok-t.ensures (omega arith) c.begin.ensures
