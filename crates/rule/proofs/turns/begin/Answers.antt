-- `rule::turns::begin` meets its contract: each arm does what its row of the table of moves says, and makes its node.
use mathlib.Core.Path.{refl, ap}
use Prim.Native.Nat.{ℕ}
use borrow.Author.Rules.{rules}
use Rattle.tokens.proofs.MoveLaws.{NoneFrom, move_row, no_row, no_form, none_first, opened_none, opened_four, opens}
use Rattle.tokens.specs.Arrays.{taken_number}
use Rattle.tokens.specs.Flat.{form_of, move_at, opened, level}
use Rattle.tokens.specs.Tables.{moves}
use Rattle.rule.proofs.PhraseLaws.{moved}
use Rattle.rule.proofs.MakeLaws.{make_none, own_makes, own_made, own_less}
use Rattle.rule.proofs.turns.begin.Goals as goal

pub make-requires : goal.make-requires
unfolding form_of move_at moves
make-requires c =
    own_makes c.in-2.is refl c.requires.0.making

pub make-requires-in-7 : goal.make-requires-in-7
unfolding form_of move_at moves
make-requires-in-7 c =
    own_makes c.in-7.is refl c.requires.0.making

pub make-requires-in-8 : goal.make-requires-in-8
unfolding form_of move_at moves
make-requires-in-8 c =
    own_makes c.in-8.is refl c.requires.0.making

pub make-requires-in-9 : goal.make-requires-in-9
unfolding form_of move_at moves
make-requires-in-9 c =
    own_makes c.in-9.is refl c.requires.0.making

pub make-requires-in-10 : goal.make-requires-in-10
unfolding form_of move_at moves
make-requires-in-10 c =
    own_makes c.in-10.is refl c.requires.0.making

pub make-requires-in-15 : goal.make-requires-in-15
unfolding form_of move_at moves
make-requires-in-15 c =
    own_makes c.in-15.is refl c.requires.0.making

pub make-requires-in-16 : goal.make-requires-in-16
unfolding form_of move_at moves
make-requires-in-16 c =
    own_makes c.in-16.is refl c.requires.0.making

-- move 2
pub returns-in-2 : goal.returns-in-2
unfolding form_of move_row move_at moves opened level taken_number
returns-in-2 c =
    let stay = c.stay in
    moved
    (own_made c.in-2.is refl refl c.make.ensures)
    (opens 1 0 c.in-2.is refl refl refl (opened_none stay.ensures))

-- move 3
pub returns-in-3 : goal.returns-in-3
unfolding form_of move_row move_at moves opened level taken_number
returns-in-3 c =
    moved
    (own_less c.in-3.is refl c.requires.0.making)
    (opens 1 1 c.in-3.is refl refl refl c.one.ensures)

-- move 4
pub returns-in-4 : goal.returns-in-4
unfolding form_of move_row move_at moves opened level taken_number
returns-in-4 c =
    let down = c.down in
    moved
    (own_less c.in-4.is refl c.requires.0.making)
    (opens 0 0 c.in-4.is refl down.ensures refl c.one-in-4.ensures)

-- move 5
pub returns-in-5 : goal.returns-in-5
unfolding form_of move_row move_at moves opened level taken_number
returns-in-5 c =
    let down = c.down-in-5 in
    moved
    (own_less c.in-5.is refl c.requires.0.making)
    (opens 0 0 c.in-5.is refl down.ensures refl c.one-in-5.ensures)

-- move 6
pub returns-in-6 : goal.returns-in-6
unfolding form_of move_row move_at moves opened level taken_number
returns-in-6 c =
    moved
    (own_less c.in-6.is refl c.requires.0.making)
    (opens 1 0 c.in-6.is refl refl refl c.one-in-6.ensures)

-- move 7
pub returns-in-7 : goal.returns-in-7
unfolding form_of move_row move_at moves opened level taken_number
returns-in-7 c =
    let stay = c.stay-in-7 in
    moved
    (own_made c.in-7.is refl refl c.make-in-7.ensures)
    (opens 1 0 c.in-7.is refl refl refl (opened_none stay.ensures))

-- move 8
pub returns-in-8 : goal.returns-in-8
unfolding form_of move_row move_at moves opened level taken_number
returns-in-8 c =
    let stay3 = c.stay-in-8 in
    moved
    (own_made c.in-8.is refl refl c.make-in-8.ensures)
    (opens 1 0 c.in-8.is refl refl refl (opened_none stay3.ensures))

-- move 9
pub returns-in-9 : goal.returns-in-9
unfolding form_of move_row move_at moves opened level taken_number
returns-in-9 c =
    let two = c.two in
    moved
    (own_made c.in-9.is refl refl c.make-in-9.ensures)
    (opens 1 0 c.in-9.is refl refl refl two.ensures)

-- move 10
pub returns-in-10 : goal.returns-in-10
unfolding form_of move_row move_at moves opened level taken_number
returns-in-10 c =
    let two = c.two-in-10 in
    moved
    (own_made c.in-10.is refl refl c.make-in-10.ensures)
    (opens 1 0 c.in-10.is refl refl refl two.ensures)

-- move 11
pub returns-in-11 : goal.returns-in-11
unfolding form_of move_row move_at moves opened level taken_number
returns-in-11 c =
    let down3 = c.down-in-11 in
    moved
    (own_less c.in-11.is refl c.requires.0.making)
    (opens 0 0 c.in-11.is refl down3.ensures refl c.one-in-11.ensures)

-- move 12
pub returns-in-12 : goal.returns-in-12
unfolding form_of move_row move_at moves opened level taken_number
returns-in-12 c =
    let two3 = c.two-in-12 in
    let down4 = c.down-in-12 in
    moved
    (own_less c.in-12.is refl c.requires.0.making)
    (opens 0 0 c.in-12.is refl down4.ensures refl (opened_four two3.ensures c.two-in-12-2.ensures))

-- move 13
pub returns-in-13 : goal.returns-in-13
unfolding form_of move_row move_at moves opened level taken_number
returns-in-13 c =
    let down5 = c.down-in-13 in
    moved
    (own_less c.in-13.is refl c.requires.0.making)
    (opens 0 0 c.in-13.is refl down5.ensures refl c.two-in-13.ensures)

-- move 14
pub returns-in-14 : goal.returns-in-14
unfolding form_of move_row move_at moves opened level taken_number
returns-in-14 c =
    moved
    (own_less c.in-14.is refl c.requires.0.making)
    (opens 1 0 c.in-14.is refl refl refl c.one-in-14.ensures)

-- move 15
pub returns-in-15 : goal.returns-in-15
unfolding form_of move_row move_at moves opened level taken_number
returns-in-15 c =
    let stay4 = c.stay-in-15 in
    moved
    (own_made c.in-15.is refl refl c.make-in-15.ensures)
    (opens 1 0 c.in-15.is refl refl refl (opened_none stay4.ensures))

-- move 16
pub returns-in-16 : goal.returns-in-16
unfolding form_of move_row move_at moves opened level taken_number
returns-in-16 c =
    let stay5 = c.stay-in-16 in
    moved
    (own_made c.in-16.is refl refl c.make-in-16.ensures)
    (opens 1 0 c.in-16.is refl refl refl (opened_none stay5.ensures))

-- move 17
pub returns-in-17 : goal.returns-in-17
unfolding form_of move_row move_at moves opened level taken_number
returns-in-17 c =
    let down6 = c.down-in-17 in
    moved
    (own_less c.in-17.is refl c.requires.0.making)
    (opens 0 0 c.in-17.is refl down6.ensures refl c.two-in-17.ensures)

-- move 18
pub returns-in-18 : goal.returns-in-18
unfolding form_of move_row move_at moves opened level taken_number
returns-in-18 c =
    let down7 = c.down-in-18 in
    moved
    (own_less c.in-18.is refl c.requires.0.making)
    (opens 0 0 c.in-18.is refl down7.ensures refl (opened_none c.stay-in-18.ensures))

-- move 19
pub returns-in-19 : goal.returns-in-19
unfolding form_of move_row move_at moves opened level taken_number
returns-in-19 c =
    moved
    (own_less c.in-19.is refl c.requires.0.making)
    (opens 1 0 c.in-19.is refl refl refl c.one-in-19.ensures)

-- no move
pub returns-in_default : goal.returns-in_default
unfolding form_of NoneFrom taken_number
returns-in_default c =
    let none : NoneFrom 2 c.args.p.act 18 = search rules in
    let down8 = c.down-in_default in
    let z = none_first _ c.requires.1 none in
    moved (make_none c.requires.0.making (ap (λ (n : ℕ). form_of n) (no_form z))) (opens 0 0 refl (no_row z) down8.ensures refl (opened_none c.stay-in_default.ensures))
