-- The tokens of a rule as planners type it (02, A4). Spelling tells how each is written.
use Rattle.std.specs.Prelude.{ℕ, Bool, eqb}
use Rattle.rules.specs.Expression.{Operator, Relation}

-- the fixed words (`does` is spelled do), then the fixed signs  ;  :=  ,  (  )  [  ]
pub data Mark : Type 0 where
  skip if then else end while does choose not and : Mark
  semicolon becomes comma round round_end square square_end : Mark

-- "whole numbers", "variables", the signs  +  -  *  /  %, the signs  =  <=  <, the words true and false, and the fixed ones
pub data Token : Type 0 where
  number variable : ℕ → Token
  sign : Operator → Token
  relation : Relation → Token
  truth : Bool → Token
  mark : Mark → Token

-- the place of a mark among the marks, by which two are told apart
unfoldable pub rank : Mark → ℕ
rank skip = 0
rank if = 1
rank then = 2
rank else = 3
rank end = 4
rank while = 5
rank does = 6
rank choose = 7
rank not = 8
rank and = 9
rank semicolon = 10
rank becomes = 11
rank comma = 12
rank round = 13
rank round_end = 14
rank square = 15
rank square_end = 16

unfoldable pub same : Mark → Mark → Bool
same a b = eqb (rank a) (rank b)
