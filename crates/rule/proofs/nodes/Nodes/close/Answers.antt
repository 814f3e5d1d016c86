-- `rule::nodes::Nodes::close` meets its contract.
use native.Mathlib.Omega.{arith}
use Rattle.rule.proofs.FrameLaws.{close_alone, close_groups, close_row, close_makes, close_made}
use Rattle.rule.proofs.FormLaws.{form_both, form_not, form_assign, form_two, kind_both, kind_not, kind_assign, kind_own}
use Rattle.rule.proofs.nodes.Nodes.close.Goals as goal

pub make-requires : goal.make-requires
make-requires c = let e = c.in-15.is in close_makes c.requires (λ q. omega arith) (λ q. omega arith) (form_both e)

pub returns-in-15 : goal.returns-in-15
returns-in-15 c =
    let e = c.in-15.is in
    close_made c.requires (λ q. omega arith) (λ q. omega arith) (form_both e) (kind_both _ e) c.make.ensures

pub make_row-requires : goal.make_row-requires
make_row-requires c = close_groups c.requires c.in-19.is

pub returns-in-19 : goal.returns-in-19
returns-in-19 c = close_row c.requires c.in-19.is c.make_row.ensures

pub make-requires-in-25 : goal.make-requires-in-25
make-requires-in-25 c = let e = c.in-25.is in close_makes c.requires (λ q. omega arith) (λ q. omega arith) (form_not e)

pub returns-in-25 : goal.returns-in-25
returns-in-25 c =
    let e = c.in-25.is in
    close_made c.requires (λ q. omega arith) (λ q. omega arith) (form_not e) (kind_not _ e) c.make-in-25.ensures

pub returns-in-27 : goal.returns-in-27
returns-in-27 c = close_alone c.requires c.in-27.is

pub make-requires-in-28 : goal.make-requires-in-28
make-requires-in-28 c = let e = c.in-28.is in close_makes c.requires (λ q. omega arith) (λ q. omega arith) (form_assign e)

pub returns-in-28 : goal.returns-in-28
returns-in-28 c =
    let e = c.in-28.is in
    close_made c.requires (λ q. omega arith) (λ q. omega arith) (form_assign e) (kind_assign _ e) c.make-in-28.ensures

pub make-requires-in_default : goal.make-requires-in_default
make-requires-in_default c =
    close_makes c.requires (λ q. omega arith) (λ q. omega arith) (form_two (λ q. omega arith) (λ q. omega arith))

pub returns-in_default : goal.returns-in_default
returns-in_default c =
    close_made c.requires (λ q. omega arith) (λ q. omega arith) (form_two (λ q. omega arith) (λ q. omega arith))
    (kind_own _ (λ q. omega arith) (λ q. omega arith) (λ q. omega arith)) c.make-in_default.ensures
