-- How tokens are spelled (02, A4), in bytes, which of them there are, and which bytes make words and blanks.
use Rattle.std.specs.Prelude.{ℕ, zero, suc, ◌+◌, ◌/◌, ◌%◌, Bool, true, false, ◌&&◌, ◌||◌, List, [], ◌∷◌, ◌++◌, eqb, ltb, leb}
use Prim.Native.Char.{code}
use Prim.Native.String.{String, [] as []ˢ, ◌∷◌ as ◌∷ˢ◌}
use Rattle.rules.specs.Expression.{Operator, plus, minus, times, over, rest, Relation, equal, at_most, less}
use Rattle.grammar.specs.Token.{Token, number, variable, sign, relation, truth, mark, Mark}
use Rattle.grammar.specs.Token.{skip, if, then, else, end, while, does, choose, not, and}
use Rattle.grammar.specs.Token.{semicolon, becomes, comma, round, round_end, square, square_end}

-- a text as its bytes: the tokens' are ASCII
abbrev pub bytes : String → List ℕ
bytes []ˢ = []
bytes (c ∷ˢ s) = code c ∷ bytes s

-- v in decimal digits (byte 48 is the digit 0), "without leading zeros": f is at least v, more divisions by ten than it takes
unfoldable pub decimal_in : ℕ → ℕ → List ℕ
decimal_in zero v = (48 + v) ∷ []
decimal_in (suc f) v = elim (ltb v 10) [ true ↦ (48 + v) ∷ [] | false ↦ decimal_in f (v / 10) ++ ((48 + v % 10) ∷ []) ]

unfoldable pub decimal : ℕ → List ℕ
decimal v = decimal_in v v

unfoldable pub mark_spelled : Mark → List ℕ
mark_spelled skip = bytes "skip"
mark_spelled if = bytes "if"
mark_spelled then = bytes "then"
mark_spelled else = bytes "else"
mark_spelled end = bytes "end"
mark_spelled while = bytes "while"
mark_spelled does = bytes "do"
mark_spelled choose = bytes "choose"
mark_spelled not = bytes "not"
mark_spelled and = bytes "and"
mark_spelled semicolon = bytes ";"
mark_spelled becomes = bytes ":="
mark_spelled comma = bytes ","
mark_spelled round = bytes "("
mark_spelled round_end = bytes ")"
mark_spelled square = bytes "["
mark_spelled square_end = bytes "]"

unfoldable pub sign_spelled : Operator → List ℕ
sign_spelled plus = bytes "+"
sign_spelled minus = bytes "-"
sign_spelled times = bytes "*"
sign_spelled over = bytes "/"
sign_spelled rest = bytes "%"

unfoldable pub relation_spelled : Relation → List ℕ
relation_spelled equal = bytes "="
relation_spelled at_most = bytes "<="
relation_spelled less = bytes "<"

unfoldable pub truth_spelled : Bool → List ℕ
truth_spelled true = bytes "true"
truth_spelled false = bytes "false"

unfoldable pub spell : Token → List ℕ
spell (number k) = decimal k
spell (variable x) = bytes "v" ++ decimal x
spell (sign o) = sign_spelled o
spell (relation o) = relation_spelled o
spell (truth v) = truth_spelled v
spell (mark m) = mark_spelled m

-- "whole numbers 0 to 2147483647 …, variables v0 to v31"
abbrev pub greatest : ℕ
greatest = 2147483647

abbrev pub last_variable : ℕ
last_variable = 31

unfoldable pub in_range : Token → Bool
in_range (number k) = leb k greatest
in_range (variable x) = leb x last_variable
in_range (sign o) = true
in_range (relation o) = true
in_range (truth v) = true
in_range (mark m) = true

-- "words (runs of letters or digits)": 0 to 9, A to Z, a to z
unfoldable pub is_digit : ℕ → Bool
is_digit b = leb 48 b && leb b 57

unfoldable pub is_letter : ℕ → Bool
is_letter b = (leb 65 b && leb b 90) || (leb 97 b && leb b 122)

unfoldable pub in_word : ℕ → Bool
in_word b = is_digit b || is_letter b

unfoldable pub begins_in_word : List ℕ → Bool
begins_in_word [] = false
begins_in_word (b ∷ bs) = in_word b

unfoldable pub is_word : Token → Bool
is_word (number k) = true
is_word (variable x) = true
is_word (sign o) = false
is_word (relation o) = false
is_word (truth v) = true
is_word (mark m) = begins_in_word (mark_spelled m)

-- "Blanks and newlines": bytes 32 and 10
unfoldable pub is_blank : ℕ → Bool
is_blank b = eqb b 32 || eqb b 10
