-- `table::levels::Tree::is_shallow` meets its contract. The loop's invariant: the deepest of the level's nodes and the levels passed make
-- the root's depth.
use Rattle.std.proofs.Common.{◌≡◌, ◌+◌, ◌-◌, replicate, sym, ap, ◌∙◌, arith}
use borrow.Author.Tests.{le-leb}
use Rattle.rules.specs.Table.{root, depth_at}
use Rattle.table.specs.inside.Sets.{Nodes, add}
use Rattle.table.proofs.LevelLaws.{root_level, level_none, shallow_told}
use Rattle.table.proofs.levels.Tree.is_shallow.Goals as goal

pub loop-init : goal.loop-init
unfolding add
loop-init c =
    let t = c.args.self.now.table.now in
    let begun : ◌≡◌ {A = Nodes} c.add.new.self (add (replicate 32 0, 0) (root t)) =
    c.add.ensures ∙ ap (λ (m : Nodes). add m (root t)) c.new-level.ensures in
    root_level t (omega (arith, c.requires)) c.args.self.now.few _ _ _ (ap (λ (m : Nodes). m.0) begun) (ap (λ (m : Nodes). m.1) begun) (omega arith)

pub returns-then-level-eq0 : goal.returns-then-level-eq0
returns-then-level-eq0 c =
    let t = c.args.self.now.table.now in
    let none_left = level_none (rw (← c.level.view_is) at c.loop.invariant) c.if-level-eq0.true in
    sym (le-leb (depth_at t (root t)) 256 (omega (arith, none_left, c.loop-test.true)))

pub loop-preserved : goal.loop-preserved
loop-preserved c =
    let t = c.args.self.now.table.now in
    let d = depth_at t (root t) in
    let one_less : d - c.loop.counter - 1 ≡ d - (c.loop.counter + 1) = omega arith in
    rw (← one_less) (c.pass.ensures _ c.loop.invariant)

pub returns : goal.returns
returns c =
    let all : c.loop.counter ≡ 256 = omega (arith, c.loop-test.false, c.loop.auto.counter-end) in
    shallow_told _ c.args.self.now.sound (rw (← c.level-2.view_is, all) at c.loop.invariant)
