-- `apply` meets its contract: each kind is its operator.
use mathlib.Core.Path.{◌≡◌, refl, sym, ap, ◌∙◌}
use Prim.Native.Nat.{ℕ, ◌<◌}
use native.Mathlib.Omega.{arith}
use lib.IntN.{ℤ}
use lib.Signed.{mag}
use mir.Syntax.{w32}
use Rattle.rules.specs.Lists.{fetch}
use Rattle.rules.specs.Value.{sum, difference, product, quotient, remainder}
use Rattle.rules.specs.Expression.{apply}
use Rattle.rules.proofs.ValueLaws.{InRange}
use Rattle.evaluate.specs.inside.Operands.{operator_of}
use Rattle.value.proofs.Machine.{back, read_back}
use Rattle.evaluate.proofs.apply.Goals as goal

-- a call's result, from what the call says of the operands as they are read back
called : (f : ℤ → ℤ → ℤ) (a b r : ℤ) → InRange a → InRange b → mag r < 2147483648 → r ≡ f (back w32 a) (back w32 b) → back w32 r ≡ f a b
called f a b r g i h e = cc (read_back r h, read_back a g.sfits, read_back b i.sfits)

-- and where the kind is a number
by_kind : (k o : ℕ) (f : ℤ → ℤ → ℤ) (a b r : ℤ) → InRange a → InRange b → k ≡ o → apply (operator_of o) a b ≡ f a b → mag r < 2147483648
    → r ≡ f (back w32 a) (back w32 b) → back w32 r ≡ apply (operator_of k) a b
by_kind k o f a b r g i e same h said = called f a b r g i h said ∙ sym same ∙ sym (ap (λ (x : ℕ). apply (operator_of x) a b) e)

pub returns-then-k-eq-PLUS : goal.returns-then-k-eq-PLUS
unfolding operator_of fetch apply
returns-then-k-eq-PLUS c = by_kind _ 3 sum _ _ _ c.ranges.a c.ranges.b c.if-k-eq-PLUS.true refl c.add.type_inv c.add.ensures

pub returns-then-k-le-MINUS : goal.returns-then-k-le-MINUS
unfolding operator_of fetch apply
returns-then-k-le-MINUS c =
    let four : c.args.k ≡ 4 = omega arith in
    by_kind _ 4 difference _ _ _ c.ranges.a c.ranges.b four refl c.sub.type_inv c.sub.ensures

pub returns-then-k-eq-TIMES : goal.returns-then-k-eq-TIMES
unfolding operator_of fetch apply
returns-then-k-eq-TIMES c = by_kind _ 5 product _ _ _ c.ranges.a c.ranges.b c.if-k-eq-TIMES.true refl c.mul.type_inv c.mul.ensures

pub returns-then-k-eq-OVER : goal.returns-then-k-eq-OVER
unfolding operator_of fetch apply
returns-then-k-eq-OVER c = by_kind _ 6 quotient _ _ _ c.ranges.a c.ranges.b c.if-k-eq-OVER.true refl c.div.type_inv c.div.ensures

pub returns : goal.returns
unfolding operator_of fetch apply
returns c =
    let seven : c.args.k ≡ 7 = omega arith in
    by_kind _ 7 remainder _ _ _ c.ranges.a c.ranges.b seven refl c.rem.type_inv c.rem.ensures
