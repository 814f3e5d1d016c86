-- `tokens::quick::word` meets its contract.
use mathlib.Core.Path.{◌≡◌}
use Prim.Native.Nat.{suc, ◌+◌}
use lib.ListN.{length}
use native.Mathlib.Omega.{arith}
use Rattle.tokens.proofs.QuickLaws.{held_word}
use Rattle.tokens.proofs.quick.word.Goals as goal

pub parted-requires : goal.parted-requires
parted-requires g c =
    let e : c.args.at + suc (length c.args.others.now) ≡ c.args.at + (1 + g.row.N) = omega arith in
    rw e at (held_word c.requires c.are.ensures c.if-not-are.false)
