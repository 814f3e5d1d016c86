-- Worked texts: the places of reading 29 and the tables that A4's sentences ask for, computed by the machine, which reads exactly the
-- grammar (OneReading). The text stands in each line as a planner types it.
use mathlib.Core.Path.{◌≡◌, refl}
use mathlib.Core.List.{List, [], ◌∷◌, ◌++◌}
use Prim.Native.Nat.{ℕ}
use Prim.Native.String.{String}
use lib.ListN.{replicate}
use Rattle.grammar.specs.Token.{same, rank}
use Rattle.grammar.specs.Grammar.{additive}
use Rattle.grammar.specs.Spelling.{bytes, spell, mark_spelled, sign_spelled, relation_spelled, truth_spelled}
use Rattle.grammar.specs.Spelling.{decimal, decimal_in, is_digit, is_letter, in_word, is_word, begins_in_word, is_blank}
use Rattle.grammar.specs.machine.Reader.{step, ends, whole_rule, after, begins_statement, begins_factor}
use Rattle.grammar.specs.machine.Reader.{begins_test, begins_part, nests_statement, nests_test, nests_factor, on}
use Rattle.grammar.specs.machine.Reader.{on_number, on_variable, on_sum, on_product, on_relation, on_truth, given}
use Rattle.grammar.specs.machine.Reader.{◌or◌, next}
use Rattle.grammar.specs.machine.Bytes.{read_text, taken_of, taken, or_stuck, read_from, reach_bytes, next_spot}
use Rattle.grammar.specs.machine.Bytes.{byte_step, byte_end, fresh, go_on, shut, shut_token, grow, begin}
use Rattle.grammar.specs.machine.Bytes.{some_begins, taking, longer, pick, find, any, begins, fixed}
use Rattle.grammar.specs.machine.Answer.{table_of_read}
use Rattle.grammar.specs.Written.{table_of, written, written_below, word_at, size, size_below, kind_number, truth_number}
use Rattle.grammar.specs.Written.{relation_number, operator_number, rule_node, boole_node, arith_node}

-- how much of a text is taken
unfoldable place_in : List ℕ → ℕ
unfolding taken_of taken or_stuck byte_step fresh go_on shut shut_token grow begin some_begins taking longer pick find any begins fixed
    step after begins_statement begins_factor begins_test begins_part nests_statement nests_test nests_factor
    on on_number on_variable on_sum on_product on_relation on_truth given ◌or◌ next same rank additive
    spell mark_spelled sign_spelled relation_spelled truth_spelled decimal decimal_in is_digit is_letter in_word is_word begins_in_word is_blank
place_in text = taken_of text

unfoldable place : String → ℕ
unfolding place_in
place text = place_in (bytes text)

-- the table of a text, four words to a node
unfoldable table : String → List ℕ
unfolding place_in read_text read_from reach_bytes next_spot byte_end ends whole_rule
    table_of_read table_of written written_below word_at size size_below kind_number truth_number relation_number operator_number
    rule_node boole_node arith_node
table text = table_of_read (read_text (bytes text))

-- ---- words, numbers, blanks

-- "must part two words": no word of the grammar goes on so
a_longer_word : place "skipx" ≡ 4
unfolding place
a_longer_word = refl

-- `v0` and `and` are two words
words_run_together : place "v0and" ≡ 2
unfolding place
words_run_together = refl

-- "Blanks and newlines may stand around tokens"
blanks_around :
    table " \nskip"
    ≡ 32 ∷ 0 ∷ 0 ∷ 0 ∷ []
unfolding table
blanks_around = refl

-- a carriage return is no blank (reading 27)
no_blank_is_it : place "skip\r" ≡ 4
unfolding place
no_blank_is_it = refl

-- "variables v0 to v31"
variable_32 : place "v32" ≡ 2
unfolding place
variable_32 = refl

-- "without leading zeros", in a variable
variable_01 : place "v01" ≡ 2
unfolding place
variable_01 = refl

-- and in a number
leading_zero : place "v0 := 01" ≡ 7
unfolding place
leading_zero = refl

-- "whole numbers 0 to 2147483647"
number_too_great : place "v0 := 2147483648" ≡ 15
unfolding place
number_too_great = refl

-- the greatest of them
greatest_number :
    table "v0 := 2147483647"
    ≡ 1 ∷ 2147483647 ∷ 0 ∷ 0 ∷ 33 ∷ 0 ∷ 0 ∷ 0 ∷ []
unfolding table
greatest_number = refl

-- `:=` is one token
becomes_in_two : place "v0 : = 1" ≡ 4
unfolding place
becomes_in_two = refl

-- and so is `<=`
at_most_in_two : place "while v0 < = 1" ≡ 11
unfolding place
at_most_in_two = refl

-- ---- statements

-- a text that only stops too early is taken whole
ends_too_early : place "skip ;" ≡ 6
unfolding place
ends_too_early = refl

-- only `and` and `then` may follow: `e` begins neither
no_then : place "if true end" ≡ 8
unfolding place
no_then = refl

-- the `e` of `end` begins `else`
no_else : place "if true then skip end" ≡ 19
unfolding place
no_else = refl

-- "a row of statements groups to the right", "+ and - below *, / and %, all grouping to the left"
row_to_the_right :
    table "v31:=1+2-3*4/5%v6;skip;skip"
    ≡ 1 ∷ 1 ∷ 0 ∷ 0 ∷ 1 ∷ 2 ∷ 0 ∷ 0 ∷ 3 ∷ 0 ∷ 1 ∷ 0 ∷ 1 ∷ 3 ∷ 0 ∷ 0 ∷ 1 ∷ 4 ∷ 0 ∷ 0
    ∷ 5 ∷ 3 ∷ 4 ∷ 0 ∷ 1 ∷ 5 ∷ 0 ∷ 0 ∷ 6 ∷ 5 ∷ 6 ∷ 0 ∷ 2 ∷ 6 ∷ 0 ∷ 0 ∷ 7 ∷ 7 ∷ 8 ∷ 0
    ∷ 4 ∷ 2 ∷ 9 ∷ 0 ∷ 33 ∷ 31 ∷ 10 ∷ 0 ∷ 32 ∷ 0 ∷ 0 ∷ 0 ∷ 32 ∷ 0 ∷ 0 ∷ 0 ∷ 34 ∷ 12 ∷ 13 ∷ 0
    ∷ 34 ∷ 11 ∷ 14 ∷ 0 ∷ []
unfolding table
row_to_the_right = refl

-- ---- booleans

-- "`not` before one of these five or a bracketed one"
not_before_not : place "while not not true do skip end" ≡ 10
unfolding place
not_before_not = refl

-- `not` is over the equality, not over the `and`
not_before_and :
    table "while not v0 = 1 and [v1<=2] do v0:=v0-1*2 end"
    ≡ 2 ∷ 0 ∷ 0 ∷ 0 ∷ 1 ∷ 1 ∷ 0 ∷ 0 ∷ 18 ∷ 0 ∷ 1 ∷ 0 ∷ 21 ∷ 2 ∷ 0 ∷ 0 ∷ 2 ∷ 1 ∷ 0 ∷ 0
    ∷ 1 ∷ 2 ∷ 0 ∷ 0 ∷ 19 ∷ 4 ∷ 5 ∷ 0 ∷ 22 ∷ 3 ∷ 6 ∷ 0 ∷ 2 ∷ 0 ∷ 0 ∷ 0 ∷ 1 ∷ 1 ∷ 0 ∷ 0
    ∷ 1 ∷ 2 ∷ 0 ∷ 0 ∷ 5 ∷ 9 ∷ 10 ∷ 0 ∷ 4 ∷ 8 ∷ 11 ∷ 0 ∷ 33 ∷ 0 ∷ 12 ∷ 0 ∷ 36 ∷ 7 ∷ 13 ∷ 0 ∷ []
unfolding table
not_before_and = refl

-- brackets group and make no node; "Nodes are written children first, left to right"
brackets_make_no_node :
    table "if [true and false] and not 1<2 then v1:=(2) else skip;v2:=choose(1=1,2,3) end"
    ≡ 16 ∷ 0 ∷ 0 ∷ 0 ∷ 17 ∷ 0 ∷ 0 ∷ 0 ∷ 22 ∷ 0 ∷ 1 ∷ 0 ∷ 1 ∷ 1 ∷ 0 ∷ 0 ∷ 1 ∷ 2 ∷ 0 ∷ 0
    ∷ 20 ∷ 3 ∷ 4 ∷ 0 ∷ 21 ∷ 5 ∷ 0 ∷ 0 ∷ 22 ∷ 2 ∷ 6 ∷ 0 ∷ 1 ∷ 2 ∷ 0 ∷ 0 ∷ 33 ∷ 1 ∷ 8 ∷ 0
    ∷ 32 ∷ 0 ∷ 0 ∷ 0 ∷ 1 ∷ 1 ∷ 0 ∷ 0 ∷ 1 ∷ 1 ∷ 0 ∷ 0 ∷ 18 ∷ 11 ∷ 12 ∷ 0 ∷ 1 ∷ 2 ∷ 0 ∷ 0
    ∷ 1 ∷ 3 ∷ 0 ∷ 0 ∷ 8 ∷ 13 ∷ 14 ∷ 15 ∷ 33 ∷ 2 ∷ 16 ∷ 0 ∷ 34 ∷ 10 ∷ 17 ∷ 0 ∷ 35 ∷ 7 ∷ 9 ∷ 18 ∷ []
unfolding table
brackets_make_no_node = refl

-- no bracket is open
bracket_too_many : place "v0 := choose(true,1,2)+3)" ≡ 24
unfolding place
bracket_too_many = refl

-- ---- "together nest at most 256 deep"

-- 257 brackets: the last is not taken
brackets_257 : place_in (bytes "v0:=" ++ replicate 257 40) ≡ 260
unfolding place_in
brackets_257 = refl

-- a choose "with its brackets" is one level: the 256th
choose_256 : place_in (bytes "v0:=" ++ replicate 255 40 ++ bytes "choose(") ≡ 266
unfolding place_in
choose_256 = refl
