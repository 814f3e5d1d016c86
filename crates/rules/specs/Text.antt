-- Text (01, "Text"), over the number w of words in a frame: the text of a row of words, the words of a text, refusals 14 and 15.
use Rattle.std.specs.Prelude.{ℕ, zero, suc, ◌+◌, ◌-◌, ◌*◌, ◌/◌, ◌%◌, min, Bool, not, cond, ◌&&◌, ◌||◌, List, [], ◌∷◌, ◌++◌, eqb, ltb, leb, length, get_or, take, drop}
use Rattle.std.proofs.Math.Option.{Option}
use Rattle.rules.specs.Lists.{joined, every}
use Rattle.rules.specs.Refusal.{fine, refuse, refuse_lowest, ◌or_else◌}
use Rattle.rules.specs.declared.Refusal.{Refusal}

-- "lower-case hexadecimal digits": 0 to 9 are bytes 48 to 57, a to f bytes 97 to 102
unfoldable pub digit : ℕ → ℕ
digit d = cond (ltb d 10) (48 + d) (87 + d)

unfoldable pub is_digit : ℕ → Bool
is_digit b = (leb 48 b && leb b 57) || (leb 97 b && leb b 102)

unfoldable pub digit_value : ℕ → ℕ
digit_value b = cond (ltb b 58) (b - 48) (b - 87)

-- v as n digits, "highest first"
unfoldable pub digits_of : ℕ → ℕ → List ℕ
digits_of zero v = []
digits_of (suc n) v = digits_of n (v / 16) ++ (digit (v % 16) ∷ [])

-- the number that digits write, after those that write v
unfoldable pub number_of : ℕ → List ℕ → ℕ
number_of v [] = v
number_of v (b ∷ bs) = number_of (16 * v + digit_value b) bs

-- ---- words to text

-- "each as eight lower-case hexadecimal digits … then one newline (byte 10)"
unfoldable pub line_of : ℕ → List ℕ → ℕ → List ℕ
line_of w ws k = joined (λ i. digits_of 8 (get_or ws (w * k + i) 0)) w ++ (10 ∷ [])

unfoldable pub text_of : ℕ → List ℕ → List ℕ
text_of w ws = joined (line_of w ws) (length ws / w)

-- ---- text to words

abbrev pub line_length : ℕ → ℕ
line_length w = 8 * w + 1

-- the lines of a text, a last one that is not whole among them
abbrev pub lines : ℕ → List ℕ → ℕ
lines w b = (length b + 8 * w) / line_length w

-- byte i of line k
abbrev pub byte_at : ℕ → List ℕ → ℕ → ℕ → ℕ
byte_at w b k i = get_or b (line_length w * k + i) 0

unfoldable pub words_of_text : ℕ → List ℕ → List ℕ
words_of_text w b = joined (λ k. joined (λ i. number_of 0 (take 8 (drop (line_length w * k + 8 * i) b)) ∷ []) w) (lines w b)

-- ---- refusals 14 and 15

-- "text line not 32 digits and newline, or a 1,025th line"
unfoldable pub line_fault : ℕ → List ℕ → ℕ → ℕ
line_fault w b k =
    cond (ltb k 1024 && leb (line_length w * k + line_length w) (length b)
    && every (λ i. is_digit (byte_at w b k i)) (8 * w) && eqb (byte_at w b k (8 * w)) 10) fine 14

unfoldable pub read_refusal : ℕ → List ℕ → ℕ → Option Refusal
read_refusal w b room = refuse_lowest (line_fault w b) (lines w b) or_else refuse (ltb room (w * lines w b)) 15 0

-- "in writing, words not whole frames or over 4,096", at "the lesser of 1,024 and the whole frames"
unfoldable pub write_refusal : ℕ → List ℕ → ℕ → Option Refusal
write_refusal w ws room =
    refuse (not (eqb (length ws % w) 0 && leb (length ws) (w * 1024))) 14 (min 1024 (length ws / w))
    or_else refuse (ltb room (line_length w * (length ws / w))) 15 0
