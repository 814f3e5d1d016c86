-- `emit` writes the code of a node's statement. Each arm's node is read in Nodes, and what the arm's writes come to is a law of Arms;
-- here the two are put together. Assumes nothing.
use native.Mathlib.Omega.{arith}
use Rattle.rules.specs.Compilation.{size}
use Rattle.compiler.proofs.Nodes.{in_table}
use Rattle.compiler.proofs.Nodes.{assign_at, sequence_at, if_at, while_at, skip_at}
use Rattle.compiler.proofs.Arms.{skip_written, assign_written, seq_written, if_written, while_written}
use Rattle.compiler.proofs.Code.+emit.Goals as goal

pub load-d-requires : goal.load-d-requires
load-d-requires t c = in_table c.requires

-- ---- an assign

pub assign-requires : goal.assign-requires
unfolding size
assign-requires t c = let v = assign_at c.requires c.load-d.ensures c.in-33.is in omega arith

pub returns-in-33-clause-words : goal.returns-in-33-clause-words
returns-in-33-clause-words t c =
    let v = assign_at c.requires c.load-d.ensures c.in-33.is in
    rw v.stm (assign_written c.assign.ensures.words)

-- ---- a sequence

pub emit-m-requires : goal.emit-m-requires
emit-m-requires t c =
    let v = sequence_at c.requires c.load-d.ensures c.in-34.is in
    (omega (arith, v.first.below), v.first.fits)

pub emit-requires : goal.emit-requires
emit-requires t c =
    let v = sequence_at c.requires c.load-d.ensures c.in-34.is in
    let m = c.emit-m.ensures in
    let second = v.second _ m.words.end _ m.kept.start _ m.kept.long in
    (omega (arith, second.below), second.fits)

pub returns-in-34-clause-words : goal.returns-in-34-clause-words
returns-in-34-clause-words t c =
    let v = sequence_at c.requires c.load-d.ensures c.in-34.is in
    let m = c.emit-m.ensures in
    rw v.sized.stm (seq_written m.words (rw m.kept.start at c.emit.ensures.words))

-- ---- an if

pub emit-m-requires-in-35 : goal.emit-m-requires-in-35
emit-m-requires-in-35 t c =
    let v = if_at c.requires c.load-d.ensures c.in-35.is in
    (omega (arith, v.then_branch.below), v.then_branch.fits)

pub overflow_add-m : goal.overflow_add-m
unfolding size
overflow_add-m t c =
    let v = if_at c.requires c.load-d.ensures c.in-35.is in
    omega (arith, v.sized.labels, c.emit-m-in-35.ensures.words.end)

pub emit-e-requires : goal.emit-e-requires
emit-e-requires t c =
    let v = if_at c.requires c.load-d.ensures c.in-35.is in
    let m = c.emit-m-in-35.ensures in
    let other = v.else_branch _ m.words.end _ m.kept.start _ m.kept.long in
    (omega (arith, other.below), other.fits)

pub ifnot-requires : goal.ifnot-requires
unfolding size
ifnot-requires t c =
    let v = if_at c.requires c.load-d.ensures c.in-35.is in
    let m = c.emit-m-in-35.ensures in
    let e = c.emit-e.ensures in
    omega (arith, v.sized.labels, v.sized.words, m.words.end, m.kept, e.kept)

pub goto-requires : goal.goto-requires
unfolding size
goto-requires t c =
    let v = if_at c.requires c.load-d.ensures c.in-35.is in
    let m = c.emit-m-in-35.ensures in
    let e = c.emit-e.ensures in
    omega (arith, v.sized.labels, v.sized.words, m.words.end, e.words.end, m.kept, e.kept, c.ifnot.ensures.kept)

pub returns-in-35-clause-words : goal.returns-in-35-clause-words
returns-in-35-clause-words t c =
    let v = if_at c.requires c.load-d.ensures c.in-35.is in
    let m = c.emit-m-in-35.ensures in
    let e = c.emit-e.ensures in
    let test = rw (e.kept.start, m.kept.start) at c.ifnot.ensures.words in
    let jump = rw (c.ifnot.ensures.kept.start, e.kept.start, m.kept.start) at c.goto.ensures.words in
    rw v.sized.stm (if_written m.words (rw m.kept.start at e.words) test jump)

-- ---- a while

pub emit-m-requires-in-36 : goal.emit-m-requires-in-36
emit-m-requires-in-36 t c =
    let v = while_at c.requires c.load-d.ensures c.in-36.is in
    (omega (arith, v.body.below), v.body.fits)

pub overflow_add-m-in-36 : goal.overflow_add-m-in-36
unfolding size
overflow_add-m-in-36 t c =
    let v = while_at c.requires c.load-d.ensures c.in-36.is in
    omega (arith, v.sized.labels, c.emit-m-in-36.ensures.words.end)

pub ifnot-requires-in-36 : goal.ifnot-requires-in-36
unfolding size
ifnot-requires-in-36 t c =
    let v = while_at c.requires c.load-d.ensures c.in-36.is in
    let m = c.emit-m-in-36.ensures in
    omega (arith, v.sized.labels, v.sized.words, m.words.end, m.kept)

pub goto-requires-in-36 : goal.goto-requires-in-36
unfolding size
goto-requires-in-36 t c =
    let v = while_at c.requires c.load-d.ensures c.in-36.is in
    let m = c.emit-m-in-36.ensures in
    omega (arith, v.sized.labels, v.sized.words, m.words.end, m.kept, c.ifnot-in-36.ensures.kept)

pub overflow_add-result-in-36 : goal.overflow_add-result-in-36
unfolding size
overflow_add-result-in-36 t c =
    let v = while_at c.requires c.load-d.ensures c.in-36.is in
    omega (arith, v.sized.labels, c.emit-m-in-36.ensures.words.end)

pub returns-in-36-clause-words : goal.returns-in-36-clause-words
returns-in-36-clause-words t c =
    let v = while_at c.requires c.load-d.ensures c.in-36.is in
    let m = c.emit-m-in-36.ensures in
    let test = rw m.kept.start at c.ifnot-in-36.ensures.words in
    let jump = rw (c.ifnot-in-36.ensures.kept.start, m.kept.start) at c.goto-in-36.ensures.words in
    rw v.sized.stm (while_written m.words test jump)

-- ---- a skip

pub returns-in_default-clause-words : goal.returns-in_default-clause-words
returns-in_default-clause-words t c =
    let v = skip_at c.requires c.load-d.ensures (λ e. omega arith) (λ e. omega arith) (λ e. omega arith) (λ e. omega arith) in
    rw v skip_written
