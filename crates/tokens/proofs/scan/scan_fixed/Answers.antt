-- `tokens::scan::scan_fixed` meets its contract.
use mathlib.Core.Path.{◌≡◌}
use Prim.Native.Nat.{◌+◌}
use native.Mathlib.Omega.{arith}
use borrow.Author.Rules.{rules}
use Rattle.std.specs.Prelude.{Some, None, Err}
use Rattle.tokens.proofs.CodeLaws.{none_there, word_longer, token_there}
use Rattle.tokens.proofs.scan.scan_fixed.Goals as goal

pub returns-in_err-kind : goal.returns-in_err-kind
returns-in_err-kind c =
    let n : c.look-f.result.found ≡ None = grind arith in
    let p : c.in_err-kind.field-0.0 ≡ c.args.at + c.look-f.result.best = grind arith in
    let told : c.from_residual.result ≡ Err c.in_err-kind.field-0.0 = search rules in
    rw (told, p) (none_there _ _ _ _ _ c.requires c.look-f.ensures n)

pub returns-then-is_word_kind-word_goes_on : goal.returns-then-is_word_kind-word_goes_on
returns-then-is_word_kind-word_goes_on c =
    let e : c.look-f.result.found ≡ Some c.in_ok-kind.kind = grind arith in
    word_longer _ _ _ _ _ c.requires c.look-f.ensures e c.is_word_kind.ensures c.word_goes_on.ensures
    c.if-is_word_kind-word_goes_on.true

pub returns : goal.returns
returns c =
    let e : c.look-f.result.found ≡ Some c.in_ok-kind.kind = grind arith in
    token_there _ _ _ _ _ c.requires c.look-f.ensures e c.is_word_kind.ensures c.word_goes_on.ensures
    c.if-is_word_kind-word_goes_on.false
