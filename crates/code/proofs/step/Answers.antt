-- `step` meets its contract: once the three words are read, each operation has its law.
use mathlib.Core.Path.{sym, ◌∙◌}
use native.Mathlib.Omega.{arith}
use Rattle.value.proofs.Machine.{read_back}
use Rattle.code.proofs.Steps.{Read, goes_on, can_assign, can_test, assigned, jumped, held, failed}
use Rattle.code.proofs.step.Goals as goal

pub value_of-v-requires : goal.value_of-v-requires
value_of-v-requires c =
    let read : Read c.args.c.now.words.now c.args.k c.part-o.result c.part-x.result c.part-y.result =
    record { operation = c.part-o.ensures; first = c.part-x.ensures; second = c.part-y.ensures } in
    (can_assign c.requires read c.in-1.is).1

pub bounds-store-x : goal.bounds-store-x
bounds-store-x c =
    let read : Read c.args.c.now.words.now c.args.k c.part-o.result c.part-x.result c.part-y.result =
    record { operation = c.part-o.ensures; first = c.part-x.ensures; second = c.part-y.ensures } in
    (can_assign c.requires read c.in-1.is).0

pub after-requires : goal.after-requires
after-requires c = goes_on c.requires

pub truth_of-requires : goal.truth_of-requires
truth_of-requires c =
    let read : Read c.args.c.now.words.now c.args.k c.part-o.result c.part-x.result c.part-y.result =
    record { operation = c.part-o.ensures; first = c.part-x.ensures; second = c.part-y.ensures } in
    can_test c.requires read (λ e. omega arith) (λ e. omega arith)

pub after-requires-then-truth_of : goal.after-requires-then-truth_of
after-requires-then-truth_of c = goes_on c.requires

pub returns-in-1 : goal.returns-in-1
returns-in-1 c =
    let read : Read c.args.c.now.words.now c.args.k c.part-o.result c.part-x.result c.part-y.result =
    record { operation = c.part-o.ensures; first = c.part-x.ensures; second = c.part-y.ensures } in
    assigned c.requires read c.in-1.is
    (read_back c.value_of-v.result c.value_of-v.type_inv ∙ c.value_of-v.ensures) c.after.ensures

pub returns-in-2 : goal.returns-in-2
returns-in-2 c =
    let read : Read c.args.c.now.words.now c.args.k c.part-o.result c.part-x.result c.part-y.result =
    record { operation = c.part-o.ensures; first = c.part-x.ensures; second = c.part-y.ensures } in
    jumped c.requires read c.in-2.is c.jump.ensures

pub returns-then-truth_of : goal.returns-then-truth_of
returns-then-truth_of c =
    let read : Read c.args.c.now.words.now c.args.k c.part-o.result c.part-x.result c.part-y.result =
    record { operation = c.part-o.ensures; first = c.part-x.ensures; second = c.part-y.ensures } in
    held c.requires read (λ e. omega arith) (λ e. omega arith) (sym c.truth_of.ensures ∙ c.if-truth_of.true) c.after-then-truth_of.ensures

pub returns-else-truth_of : goal.returns-else-truth_of
returns-else-truth_of c =
    let read : Read c.args.c.now.words.now c.args.k c.part-o.result c.part-x.result c.part-y.result =
    record { operation = c.part-o.ensures; first = c.part-x.ensures; second = c.part-y.ensures } in
    failed c.requires read (λ e. omega arith) (λ e. omega arith) (sym c.truth_of.ensures ∙ c.if-truth_of.false) c.jump-else-truth_of.ensures
