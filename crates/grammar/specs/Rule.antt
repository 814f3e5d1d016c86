-- What a text of A4 reads as: a statement of While, as `Stm` of `rules`, with its expressions themselves in the place of their nodes.
use Rattle.std.specs.Prelude.{ℕ}
use Rattle.rules.specs.Expression.{Arith, Boole}

pub data Rule : Type 0 where
  skip : Rule
  assign : ℕ → Arith → Rule
  seq : Rule → Rule → Rule
  if : Boole → Rule → Rule → Rule
  while : Boole → Rule → Rule
