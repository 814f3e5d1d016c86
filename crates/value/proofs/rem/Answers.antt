-- `value::rem` meets its contract, by steps that wrap.
use Rattle.rules.proofs.DivisionLaws.{remainder_by_steps}
use Rattle.value.proofs.Machine.{read_back}
use Rattle.value.proofs.rem.Goals as goal

pub returns : goal.returns
returns c =
    let a = c.args.a in
    let b = c.args.b in
    cc (
      read_back a c.ranges.a.sfits,
      read_back b c.ranges.b.sfits,
      read_back c.div.result c.div.type_inv,
      read_back c.mul.result c.mul.type_inv,
      read_back c.sub.result c.sub.type_inv,
      remainder_by_steps a b,
    )
