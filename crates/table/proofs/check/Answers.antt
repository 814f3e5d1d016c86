-- `table::check` meets its contract: each part of the answer is that of a call, in the order of the numbers.
use Rattle.std.proofs.Common.{◌≡◌, true, ap, sym, ◌∙◌, arith, rules}
use Rattle.std.specs.Prelude.{Err}
use Rattle.rules.specs.Table.{whole_table}
use Rattle.rules.proofs.TableLaws.{whole_table_lem}
use Rattle.table.specs.inside.Sets.{marks_of}
use Rattle.table.specs.inside.Steps.{Sound}
use Rattle.table.proofs.CheckLaws.{refused_1, refused_2_to_6, sound_nodes, checking_sound}
use Rattle.table.proofs.check.Goals as goal

pub returns-then-not-whole : goal.returns-then-not-whole
unfolding whole_table
returns-then-not-whole c =
    ap Err c.at.ensures ∙ sym (refused_1 _ (sym c.whole.ensures ∙ c.if-not-whole.true))

pub check_tree-requires : goal.check_tree-requires
unfolding whole_table marks_of
check_tree-requires c =
    let w : whole_table c.args.table.now ≡ true = sym c.whole.ensures ∙ c.if-not-whole.false in
    let facts = whole_table_lem _ w in
    let s : Sound c.args.table.now = sound_nodes _ (sym c.in_ok-walk.was ∙ c.walk.ensures.answered) in
    record {
      within = record { inside = omega arith; few = facts.2 };
      sound = s;
      marks = rw (← c.new-marks.ensures) (c.walk.ensures.marked s);
    }

pub returns-in_err-walk : goal.returns-in_err-walk
unfolding whole_table
returns-in_err-walk c =
    let w : whole_table c.args.table.now ≡ true = sym c.whole.ensures ∙ c.if-not-whole.false in
    let same : c.from_residual.result ≡ c.walk.result = search rules in
    let was = c.in_err-walk.was in
    same ∙ was ∙ sym (refused_2_to_6 _ w _ (sym was ∙ c.walk.ensures.answered))

pub returns : goal.returns
unfolding whole_table
returns c =
    let w : whole_table c.args.table.now ≡ true = sym c.whole.ensures ∙ c.if-not-whole.false in
    let s : Sound c.args.table.now = sound_nodes _ (sym c.in_ok-walk.was ∙ c.walk.ensures.answered) in
    c.check_tree.ensures ∙ sym (checking_sound _ w s)
