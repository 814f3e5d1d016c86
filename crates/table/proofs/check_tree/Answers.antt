-- `table::check_tree` meets its contract: the marks say how often each node is named, so that the first not named once is 8's place.
use Rattle.std.proofs.Common.{refl, ap, sym, ◌∙◌, arith, rules}
use borrow.Author.Tests.{leb-true, leb-false}
use Rattle.std.specs.Prelude.{Err}
use Rattle.rules.specs.Table.{root}
use Rattle.table.specs.declared.rows.Slot.TheVariants.{Statement}
use Rattle.table.proofs.RowLaws.{other_slot}
use Rattle.table.proofs.CheckLaws.{refused_7, refused_8, refused_9, none_refused}
use Rattle.table.proofs.DepthLaws.{depth_most}
use Rattle.table.proofs.check_tree.Goals as goal

pub returns-then-ne : goal.returns-then-ne
returns-then-ne c =
    let t = c.args.t.now in
    let other = other_slot t (root t) _ c.known_row_at-own.ensures Statement refl c.ne.ensures c.if-ne.true in
    ap Err c.at.ensures ∙ sym (refused_7 t other)

pub returns-in-Some : goal.returns-in-Some
returns-in-Some c =
    let t = c.args.t.now in
    let is_statement = other_slot t (root t) _ c.known_row_at-own.ensures Statement refl c.ne.ensures c.if-ne.false in
    let lower = c.in-Some.ensures.0 in
    let first = c.in-Some.ensures.1 in
    ap Err c.at-in-Some.ensures
    ∙ sym (refused_8 t is_statement _ c.requires.marks (search rules) _ lower first.once (first.not_once (omega (arith, lower))))

pub returns-then-low : goal.returns-then-low
returns-then-low c =
    let t = c.args.t.now in
    let is_statement = other_slot t (root t) _ c.known_row_at-own.ensures Statement refl c.ne.ensures c.if-ne.false in
    let depth = depth_most t c.requires.sound (root t) c.requires.within.inside in
    sym (none_refused t is_statement _ c.requires.marks (search rules) c.in_default.ensures (omega (arith, depth)))

pub returns-then-is_shallow : goal.returns-then-is_shallow
returns-then-is_shallow c =
    let t = c.args.t.now in
    let is_statement = other_slot t (root t) _ c.known_row_at-own.ensures Statement refl c.ne.ensures c.if-ne.false in
    let shallow = leb-true _ 256 (sym c.is_shallow.ensures ∙ c.if-is_shallow.true) in
    sym (none_refused t is_statement _ c.requires.marks (search rules) c.in_default.ensures shallow)

pub returns-else-is_shallow : goal.returns-else-is_shallow
returns-else-is_shallow c =
    let t = c.args.t.now in
    let is_statement = other_slot t (root t) _ c.known_row_at-own.ensures Statement refl c.ne.ensures c.if-ne.false in
    let deep = leb-false _ 256 (sym c.is_shallow.ensures ∙ c.if-is_shallow.false) in
    ap Err c.at-else-is_shallow.ensures ∙ sym (refused_9 t is_statement _ c.requires.marks (search rules) c.in_default.ensures deep)
