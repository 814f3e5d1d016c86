-- `table::levels::Nodes::add` meets its contract. The word that is told is the node's, however the code works out its place.
use Rattle.std.proofs.Common.{◌≡◌, ◌/◌, ◌∙◌, ap, arith}
use Rattle.bits.specs.Bit.{with_bit}
use Rattle.table.specs.inside.Sets.{add}
use Rattle.table.proofs.levels.Nodes.add.Goals as goal

pub returns : goal.returns
unfolding add
returns c =
    let told : c.with-self-inside.result ≡ with_bit c.self.inside.used (c.args.k / 32) =
    c.with-self-inside.ensures ∙ ap (with_bit _) (omega (arith, c.requires)) in
    rw (← c.self.view_is, c.put.ensures, told)
