-- `assign` spends one unit, and stores the value of its expression at its variable.
use mathlib.Core.Path.{◌≡◌}
use mathlib.Core.List.{List}
use Prim.Native.Nat.{ℕ, ◌<◌}
use native.Mathlib.Omega.{arith}
use borrow.Author.Rules.{scaled_Fits}
use lib.Dec.{lit<}
use Rattle.rules.specs.Table.{Kind, field, row_of}
use Rattle.value.proofs.Machine.{read_back}
use Rattle.evaluate.proofs.Nodes.{word_inside, child_ready}
use Rattle.source.specs.inside.Ran.{Of}
use Rattle.source.proofs.Statements.{of_kind, assign_spent, assign_ran}
use Rattle.source.proofs.assign.Goals as goal

-- an assign's variable is below 32
below_32 : {t : List ℕ} {n x : ℕ} → Of t n Kind.assign → x ≡ field t n 1 → x < 32
unfolding row_of
below_32 here e = rw e (of_kind here).first

pub returns-then-credit-eq1 : goal.returns-then-credit-eq1
returns-then-credit-eq1 c = rw c.if-credit-eq1.true (assign_spent (of_kind c.requires.0) c.args.s.now)

pub place-x-requires : goal.place-x-requires
place-x-requires c = word_inside c.requires.0.ready 1 (lit< tt)

pub place-requires : goal.place-requires
place-requires c = word_inside c.requires.0.ready 2 (lit< tt)

pub value_of-requires : goal.value_of-requires
unfolding row_of
value_of-requires c = child_ready c.requires.0.ready c.place.ensures (of_kind c.requires.0).second

pub offset_bounds-s-x : goal.offset_bounds-s-x
offset_bounds-s-x c = scaled_Fits c.place-x.result 32 4 (below_32 c.requires.0 c.place-x.ensures) (lit< tt)

pub bounds-s-x : goal.bounds-s-x
bounds-s-x c = below_32 c.requires.0 c.place-x.ensures

pub returns : goal.returns
returns c =
    rw (read_back c.value_of.result c.value_of.type_inv, c.place-x.ensures, c.value_of.ensures, c.place.ensures)
    (assign_ran (of_kind c.requires.0) c.args.s.now (omega arith))
