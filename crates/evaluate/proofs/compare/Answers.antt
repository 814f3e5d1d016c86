-- `compare` meets its contract: each kind is its relation. Two values are equal where their bits are.
use mathlib.Core.Path.{◌≡◌, sym, ap, ap₂, ◌∙◌}
use mathlib.Core.Bool.{Bool}
use Prim.Native.Nat.{ℕ}
use native.Mathlib.Omega.{arith}
use lib.IntN.{ℤ}
use lib.Signed.{le_z, lt_z}
use mir.Syntax.{w32}
use Rattle.rules.specs.Lists.{fetch}
use Rattle.rules.specs.Value.{is_at_most, is_less}
use Rattle.rules.specs.Expression.{holds}
use Rattle.rules.proofs.ValueLaws.{InRange}
use Rattle.evaluate.specs.inside.Operands.{relation_of}
use Rattle.value.proofs.Machine.{back, read_back, equal_bits}
use Rattle.evaluate.proofs.compare.Goals as goal

-- the operands, as they are read back
read : (f : ℤ → ℤ → Bool) (a b : ℤ) → InRange a → InRange b → f (back w32 a) (back w32 b) ≡ f a b
read f a b g h = ap₂ f (read_back a g.sfits) (read_back b h.sfits)

-- what is answered for a kind is answered for an equal one
by_kind : {k o : ℕ} (a b : ℤ) → k ≡ o → holds (relation_of o) a b ≡ holds (relation_of k) a b
by_kind a b e = sym (ap (λ (x : ℕ). holds (relation_of x) a b) e)

pub returns-in-18 : goal.returns-in-18
unfolding relation_of fetch holds
returns-in-18 c = equal_bits c.args.a c.args.b c.ranges.a c.ranges.b ∙ by_kind _ _ c.in-18.is

pub returns-in-19 : goal.returns-in-19
unfolding relation_of fetch holds is_at_most
returns-in-19 c = read le_z _ _ c.ranges.a c.ranges.b ∙ by_kind _ _ c.in-19.is

pub returns-in_default : goal.returns-in_default
unfolding relation_of fetch holds is_less
returns-in_default c =
    let less : c.args.k ≡ 20 = omega arith in
    read lt_z _ _ c.ranges.a c.ranges.b ∙ by_kind _ _ less
