-- `rule::turns::after_phrase` meets its contract.
use mathlib.Core.Path.{◌≡◌}
use Rattle.std.proofs.lemmas.Result.{err_from_is_err_and}
use Rattle.rule.proofs.PhraseLaws.{later_late}
use Rattle.rule.proofs.EndLaws.{turn_stuck, turn_lowers, turn_performs, turn_moved}
use Rattle.rule.proofs.ReadLaws.{at_next}
use Rattle.rule.proofs.turns.after_phrase.Goals as goal

pub next_in-requires : goal.next_in-requires
next_in-requires c = at_next c.requires.0

pub returns-in_err-n : goal.returns-in_err-n
returns-in_err-n c =
    let S = turn_stuck c.requires.0 c.in_err-n.ensures in
    let k = err_from_is_err_and c.from_residual.result c.from_residual.ensures.1 in
    let q : k.0 ≡ c.in_err-n.field-0.0 = k.2 in
    rw (k.1, q) S

pub close_down-requires : goal.close_down-requires
close_down-requires c = turn_lowers c.requires.0 c.in_ok-n.ensures

pub go_on-requires : goal.go_on-requires
go_on-requires c =
    let N = c.in_ok-n.ensures in
    (turn_performs c.requires.0 N c.close_down.ensures, later_late c.requires.0 N c.requires.1 (λ h. (N.ends h).over.3))

pub returns : goal.returns
returns c = turn_moved c.requires.0 c.in_ok-n.ensures c.close_down.ensures c.go_on.ensures
