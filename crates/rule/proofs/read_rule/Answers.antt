-- `rule::read_rule` meets its contract.
use mathlib.Core.Path.{◌≡◌, refl, sym, ap, ◌∙◌}
use mathlib.Core.List.{List}
use Prim.Native.Nat.{ℕ, ◌*◌}
use native.Mathlib.Omega.{arith}
use borrow.Author.Rules.{rules}
use lib.ListN.{length, take}
use lib.Seq.{length-take-le}
use Rattle.std.specs.Prelude.{Err}
use Rattle.rules.proofs.ListLaws.{sets_part}
use Rattle.rule.proofs.Endings.{ends_refused, ends_short, ends_done}
use Rattle.rule.proofs.read_rule.Goals as goal

pub returns-in_err-n : goal.returns-in_err-n
returns-in_err-n c =
    let told : c.from_residual.result ≡ Err c.in_err-n.field-0.0 = search rules in
    rw told (ends_refused _ _ c.in_err-n.ensures)

pub returns-then-room-n : goal.returns-then-room-n
returns-then-room-n c = rw c.at.ensures (ends_short _ _ c.in_ok-n.ensures (omega arith))

pub returns : goal.returns
returns c =
    let room : List ℕ = c.args.room.now in
    let words : List ℕ = c.read.new.nodes.words in
    let n = 4 * c.in_ok-n.field-0 in
    let fits = c.if-room-n.false in
    let copied = c.copy_from_slice.ensures in
    let amount : length (take n words) ≡ n = sym (ap length copied.after) ∙ copied.len ∙ length-take-le n room fits in
    ends_done _ room c.in_ok-n.ensures fits (rw copied.after (sets_part (take n words) room 0 n amount (omega arith))) refl
