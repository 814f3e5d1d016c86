-- `put` writes the words of one instruction. Assumes nothing.
use mathlib.Core.List.{[], ◌∷◌}
use Prim.Native.Nat.{◌+◌, ◌*◌, ◌-◌}
use native.Mathlib.Omega.{arith}
use Rattle.rules.proofs.ListLaws.{sets_part}
use mathlib.Core.Path.{◌≡◌, refl}
use denote.Enum.Declared.{tag_of}
use Rattle.compiler.specs.contracts.Operation.{the_type}
use Rattle.compiler.specs.declared.Operation.{Operation}
use Rattle.compiler.specs.declared.Operation.TheVariants.{Assign, Goto, Ifnot}
use Rattle.compiler.specs.inside.Writing.{number}
use Rattle.compiler.proofs.Code.put.Goals as goal

-- as a cast gives it
number_is : (o : Operation) → tag_of the_type o + 1 ≡ number o
number_is Assign = refl
number_is Goto = refl
number_is Ifnot = refl

pub returns-clause-words : goal.returns-clause-words
returns-clause-words c =
    let at = 4 * c.args.i in
    let code = c.args.self.now in
    rw (c.copy_from_slice.ensures.after, number_is)
    (sets_part ((code.start + c.args.i) ∷ number c.args.operation ∷ c.args.x ∷ c.args.y ∷ []) code.room.now at (at + 4 - at) (omega arith) (omega arith))
