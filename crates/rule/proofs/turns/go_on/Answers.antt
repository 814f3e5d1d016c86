-- `rule::turns::go_on` meets its contract: each arm does what its row of the table of moves says, and makes its node.
use mathlib.Core.Path.{refl, ap}
use Prim.Native.Nat.{ℕ}
use borrow.Author.Rules.{rules}
use Rattle.tokens.proofs.MoveLaws.{NoneFrom, move_row, no_row, no_form, none_later, level_up, opened_none, entered_by, opens, closes_opens}
use Rattle.tokens.proofs.ArrayLaws.{lower_none}
use Rattle.tokens.specs.Arrays.{taken_number}
use Rattle.tokens.specs.Flat.{form_of, move_at, opened, level}
use Rattle.tokens.specs.Tables.{moves}
use Rattle.rule.proofs.PhraseLaws.{moved}
use Rattle.rule.proofs.MakeLaws.{make_none, own_makes, own_made, own_less}
use Rattle.rule.proofs.turns.go_on.Goals as goal

pub make-requires : goal.make-requires
unfolding form_of move_at moves
make-requires c =
    own_makes c.in-24.is refl c.requires.0.making

pub make-requires-in-25 : goal.make-requires-in-25
unfolding form_of move_at moves
make-requires-in-25 c =
    own_makes c.in-25.is refl c.requires.0.making

pub make-requires-in-33 : goal.make-requires-in-33
unfolding form_of move_at moves
make-requires-in-33 c =
    own_makes c.in-33.is refl c.requires.0.making

-- move 20
pub returns-in-20 : goal.returns-in-20
unfolding form_of move_row move_at moves opened level taken_number
returns-in-20 c =
    moved
    (own_less c.in-20.is refl c.requires.0.making)
    (opens 1 0 c.in-20.is refl refl refl c.one.ensures)

-- move 21
pub returns-in-21 : goal.returns-in-21
unfolding form_of move_row move_at moves opened level taken_number
returns-in-21 c =
    moved
    (own_less c.in-21.is refl c.requires.0.making)
    (opens 1 1 c.in-21.is refl refl refl c.one-in-21.ensures)

-- move 22
pub returns-in-22 : goal.returns-in-22
unfolding form_of move_row move_at moves opened level taken_number
returns-in-22 c =
    moved
    (own_less c.in-22.is refl c.requires.0.making)
    (opens 1 1 c.in-22.is refl refl refl c.one-in-22.ensures)

-- move 23
pub returns-in-23 : goal.returns-in-23
unfolding form_of move_row move_at moves opened level taken_number
returns-in-23 c =
    let lower = c.lower in
    moved
    (own_less c.in-23.is refl c.requires.0.making)
    (closes_opens 1 0 c.in-23.is refl lower.ensures refl refl c.two.ensures)

-- move 24
pub returns-in-24 : goal.returns-in-24
unfolding form_of move_row move_at moves opened level taken_number
returns-in-24 c =
    let lower = c.lower-in-24 in
    let stay = c.stay in
    moved
    (own_made c.in-24.is refl refl c.make.ensures)
    (closes_opens 2 0 c.in-24.is refl lower.ensures (level_up _) refl (opened_none stay.ensures))

-- move 25
pub returns-in-25 : goal.returns-in-25
unfolding form_of move_row move_at moves opened level taken_number
returns-in-25 c =
    let lower3 = c.lower-in-25 in
    let stay = c.stay-in-25 in
    moved
    (own_made c.in-25.is refl refl c.make-in-25.ensures)
    (closes_opens 2 0 c.in-25.is refl lower3.ensures (level_up _) refl (opened_none stay.ensures))

-- move 26
pub returns-in-26 : goal.returns-in-26
unfolding form_of move_row move_at moves opened level taken_number
returns-in-26 c =
    let count-statement = c.count_statement in
    moved
    (own_less c.in-26.is refl c.requires.0.making)
    (rw count-statement.ensures.tags (entered_by 1 0 c.in-26.is refl lower_none refl count-statement.ensures.counted refl (opened_none c.stay-in-26.ensures)))

-- move 27
pub returns-in-27 : goal.returns-in-27
unfolding form_of move_row move_at moves opened level taken_number
returns-in-27 c =
    let lower4 = c.lower-in-27 in
    moved
    (own_less c.in-27.is refl c.requires.0.making)
    (closes_opens 1 0 c.in-27.is refl lower4.ensures refl refl c.two-in-27.ensures)

-- move 28
pub returns-in-28 : goal.returns-in-28
unfolding form_of move_row move_at moves opened level taken_number
returns-in-28 c =
    let lower5 = c.lower-in-28 in
    moved
    (own_less c.in-28.is refl c.requires.0.making)
    (closes_opens 1 0 c.in-28.is refl lower5.ensures refl refl c.two-in-28.ensures)

-- move 29
pub returns-in-29 : goal.returns-in-29
unfolding form_of move_row move_at moves opened level taken_number
returns-in-29 c =
    let lower6 = c.lower-in-29 in
    moved
    (own_less c.in-29.is refl c.requires.0.making)
    (closes_opens 2 0 c.in-29.is refl lower6.ensures (level_up _) refl (opened_none c.stay-in-29.ensures))

-- move 30
pub returns-in-30 : goal.returns-in-30
unfolding form_of move_row move_at moves opened level taken_number
returns-in-30 c =
    let lower7 = c.lower-in-30 in
    moved
    (own_less c.in-30.is refl c.requires.0.making)
    (closes_opens 1 0 c.in-30.is refl lower7.ensures refl refl c.two-in-30.ensures)

-- move 31
pub returns-in-31 : goal.returns-in-31
unfolding form_of move_row move_at moves opened level taken_number
returns-in-31 c =
    let lower8 = c.lower-in-31 in
    moved
    (own_less c.in-31.is refl c.requires.0.making)
    (closes_opens 1 1 c.in-31.is refl lower8.ensures refl refl c.two-in-31.ensures)

-- move 32
pub returns-in-32 : goal.returns-in-32
unfolding form_of move_row move_at moves opened level taken_number
returns-in-32 c =
    let lower9 = c.lower-in-32 in
    moved
    (own_less c.in-32.is refl c.requires.0.making)
    (closes_opens 1 0 c.in-32.is refl lower9.ensures refl refl c.two-in-32.ensures)

-- move 33
pub returns-in-33 : goal.returns-in-33
unfolding form_of move_row move_at moves opened level taken_number
returns-in-33 c =
    let lower10 = c.lower-in-33 in
    let stay5 = c.stay-in-33 in
    moved
    (own_made c.in-33.is refl refl c.make-in-33.ensures)
    (closes_opens 2 0 c.in-33.is refl lower10.ensures (level_up _) refl (opened_none stay5.ensures))

-- no move
pub returns-in_default : goal.returns-in_default
unfolding form_of NoneFrom taken_number
returns-in_default c =
    let none : NoneFrom 20 c.args.p.act 14 = search rules in
    let down = c.down in
    let z = none_later _ c.requires.1 none in
    moved (make_none c.requires.0.making (ap (λ (n : ℕ). form_of n) (no_form z))) (opens 0 0 refl (no_row z) down.ensures refl (opened_none c.stay-in_default.ensures))
