-- Code as words (01, "Code and its steps"): what a row of words means as code, the words of a piece of code, and refusal 13.
use Rattle.std.specs.Prelude.{ℕ, zero, suc, ◌+◌, ◌*◌, ◌/◌, ◌%◌, ◌<◌, Bool, true, not, cond, ◌&&◌, List, [], ◌∷◌, ◌++◌, eqb, ltb, leb, length, get_or}
use Rattle.std.proofs.Math.Option.{Option}
use Rattle.rules.specs.Lists.{joined}
use Rattle.rules.specs.Goto.{Instr, ◌≔◌, goto, ifnot, Code}
use Rattle.rules.specs.Table.{nodes, Class, arithmetic, boolean, is_class}
use Rattle.rules.specs.Refusal.{fine, refuse, refuse_lowest, ◌or_else◌}
use Rattle.rules.specs.declared.Refusal.{Refusal}

-- "Code is four words to an instruction: label, operation, x, y."
abbrev pub width : ℕ
width = 4

-- word i of instruction k
abbrev pub part : List ℕ → ℕ → ℕ → ℕ
part c k i = get_or c (width * k + i) 0

abbrev pub instructions : List ℕ → ℕ
instructions c = length c / width

unfoldable pub instr_of : ℕ → ℕ → ℕ → Instr
instr_of o x y = cond (eqb o 1) (x ≔ y) (cond (eqb o 2) (goto y) (ifnot x y))

-- instruction k of the words, without its label
abbrev pub instr_at : List ℕ → ℕ → Instr
instr_at c k = instr_of (part c k 1) (part c k 2) (part c k 3)

unfoldable pub code_of : List ℕ → Code
code_of c = joined (λ k. (part c k 0, instr_at c k) ∷ []) (instructions c)

-- and the other way: the words of an instruction, and of a piece of code
unfoldable pub frame_of : ℕ → Instr → List ℕ
frame_of ℓ (x ≔ a) = ℓ ∷ 1 ∷ x ∷ a ∷ []
frame_of ℓ (goto m) = ℓ ∷ 2 ∷ 0 ∷ m ∷ []
frame_of ℓ (ifnot b m) = ℓ ∷ 3 ∷ b ∷ m ∷ []

unfoldable pub words_of : Code → List ℕ
words_of [] = []
words_of (li ∷ c) = frame_of li.0 li.1 ++ words_of c

-- ---- refusal 13: "word count (place 0), then any field, rising labels, node classes", at the first such instruction

unfoldable pub whole_code : List ℕ → Bool
whole_code c = eqb (length c % width) 0 && leb (length c) (width * 1024)

unfoldable pub is_node : List ℕ → Class → ℕ → Bool
is_node t c n = ltb n (nodes t) && is_class t c n

-- "targets are 0 to 65,535"
unfoldable pub fields_fit : List ℕ → ℕ → ℕ → ℕ → Bool
fields_fit t o x y =
    cond (eqb o 1) (ltb x 32 && is_node t arithmetic y)
    (cond (eqb o 2) (eqb x 0 && leb y 65535) (eqb o 3 && is_node t boolean x && leb y 65535))

-- "Instruction labels are 0 to 65,534 and strictly rising"
unfoldable pub rises : List ℕ → ℕ → Bool
rises c zero = true
rises c (suc k) = ltb (part c k 0) (part c (suc k) 0)

-- and all together: each label is above every label before it
abbrev pub Rising : List ℕ → Type 0
Rising c = (j k : ℕ) → j < k → k < instructions c → part c j 0 < part c k 0

unfoldable pub code_fault : List ℕ → List ℕ → ℕ → ℕ
code_fault t c k = cond (leb (part c k 0) 65534 && fields_fit t (part c k 1) (part c k 2) (part c k 3) && rises c k) fine 13

unfoldable pub code_refusal : List ℕ → List ℕ → Option Refusal
code_refusal t c = refuse (not (whole_code c)) 13 0 or_else refuse_lowest (code_fault t c) (instructions c)
