-- The half-read tree of the grammar that a state of the machine stands for: what the tokens so far have opened, and where it stands in them.
use mathlib.Core.Path.{◌≡◌}
use mathlib.Core.Bool.{true, false}
use mathlib.Core.List.{List, ◌∷◌}
use Prim.Native.Nat.{ℕ, suc}
use Rattle.rules.specs.Expression.{Arith, Boole, Operator, Relation}
use Rattle.grammar.specs.Rule.{Rule}
use Rattle.grammar.specs.Token.{Token, variable, sign, relation, mark}
use Rattle.grammar.specs.Token.{if, then, else, while, does, choose, not, and}
use Rattle.grammar.specs.Token.{semicolon, becomes, comma, round, square}
use Rattle.grammar.specs.Grammar.{additive, Row, Statement, Ands, Part, Test, Sum, Term, Factor}
use Rattle.grammar.specs.machine.Reader.{Phrase, Value, State, Open, whole, follow, then_branch, else_branch}
use Rattle.grammar.specs.machine.Reader.{loop_body, in_row, if_test, while_test, squared, choose_test}
use Rattle.grammar.specs.machine.Reader.{first_part, next_part, plain, negated, assigning, left_side}
use Rattle.grammar.specs.machine.Reader.{right_side, bracketed, choose_first, choose_second, first_term}
use Rattle.grammar.specs.machine.Reader.{next_term, first_factor, next_factor, want_statement, want_becomes}
use Rattle.grammar.specs.machine.Reader.{want_part, want_test, want_factor, want_open, have}

-- the phrase h, by its own name
abbrev pub Reading : (h : Phrase) → ℕ → List Token → List Token → Value h → Type 0
Reading Phrase.row = Row
Reading Phrase.statement = Statement
Reading Phrase.ands = Ands
Reading Phrase.part = Part
Reading Phrase.test = Test
Reading Phrase.sum = Sum
Reading Phrase.term = Term
Reading Phrase.factor = Factor

module _ {limit : ℕ} (w : List Token) where
  -- the tokens of w up to ts have opened K
  pub data Opened : (h : Phrase) (n : ℕ) → Open limit h n → List Token → Type 0 where
    at_whole : Opened Phrase.row limit whole w
    at_follow : {n : ℕ} {s : Rule} {K : Open limit Phrase.row n} {ts us : List Token}
        → Opened _ _ K ts → Statement n ts (mark semicolon ∷ us) s → Opened _ _ (follow s K) us
    at_then : {n : ℕ} {b : Boole} {K : Open limit Phrase.statement (suc n)} {ts us : List Token}
        → Opened _ _ K (mark if ∷ ts) → Ands n ts (mark then ∷ us) b → Opened _ _ (then_branch b K) us
    at_else : {n : ℕ} {b : Boole} {p : Rule} {K : Open limit Phrase.statement (suc n)} {ts us vs : List Token}
        → Opened _ _ K (mark if ∷ ts) → Ands n ts (mark then ∷ us) b → Row n us (mark else ∷ vs) p → Opened _ _ (else_branch b p K) vs
    at_body : {n : ℕ} {b : Boole} {K : Open limit Phrase.statement (suc n)} {ts us : List Token}
        → Opened _ _ K (mark while ∷ ts) → Ands n ts (mark does ∷ us) b → Opened _ _ (loop_body b K) us
    at_row : {n : ℕ} {K : Open limit Phrase.row n} {ts : List Token} → Opened _ _ K ts → Opened _ _ (in_row K) ts
    at_if : {n : ℕ} {K : Open limit Phrase.statement (suc n)} {ts : List Token}
        → Opened _ _ K (mark if ∷ ts) → Opened _ _ (if_test K) ts
    at_while : {n : ℕ} {K : Open limit Phrase.statement (suc n)} {ts : List Token}
        → Opened _ _ K (mark while ∷ ts) → Opened _ _ (while_test K) ts
    at_square : {n : ℕ} {K : Open limit Phrase.test (suc n)} {ts : List Token}
        → Opened _ _ K (mark square ∷ ts) → Opened _ _ (squared K) ts
    at_choose : {n : ℕ} {K : Open limit Phrase.factor (suc n)} {ts : List Token}
        → Opened _ _ K (mark choose ∷ mark round ∷ ts) → Opened _ _ (choose_test K) ts
    at_first_part : {n : ℕ} {K : Open limit Phrase.ands n} {ts : List Token}
        → Opened _ _ K ts → Opened _ _ (first_part K) ts
    at_next_part : {n : ℕ} {b : Boole} {K : Open limit Phrase.ands n} {ts us : List Token}
        → Opened _ _ K ts → Ands n ts (mark and ∷ us) b → Opened _ _ (next_part b K) us
    at_plain : {n : ℕ} {K : Open limit Phrase.part n} {ts : List Token} → Opened _ _ K ts → Opened _ _ (plain K) ts
    at_not : {n : ℕ} {K : Open limit Phrase.part n} {ts : List Token}
        → Opened _ _ K (mark not ∷ ts) → Opened _ _ (negated K) ts
    at_becomes : {n x : ℕ} {K : Open limit Phrase.statement n} {ts : List Token}
        → Opened _ _ K (variable x ∷ mark becomes ∷ ts) → Opened _ _ (assigning x K) ts
    at_left : {n : ℕ} {K : Open limit Phrase.test n} {ts : List Token} → Opened _ _ K ts → Opened _ _ (left_side K) ts
    at_right : {n : ℕ} {o : Relation} {a : Arith} {K : Open limit Phrase.test n} {ts us : List Token}
        → Opened _ _ K ts → Sum n ts (relation o ∷ us) a → Opened _ _ (right_side o a K) us
    at_round : {n : ℕ} {K : Open limit Phrase.factor (suc n)} {ts : List Token}
        → Opened _ _ K (mark round ∷ ts) → Opened _ _ (bracketed K) ts
    at_first : {n : ℕ} {b : Boole} {K : Open limit Phrase.factor (suc n)} {ts us : List Token}
        → Opened _ _ K (mark choose ∷ mark round ∷ ts) → Ands n ts (mark comma ∷ us) b → Opened _ _ (choose_first b K) us
    at_second : {n : ℕ} {b : Boole} {x : Arith} {K : Open limit Phrase.factor (suc n)} {ts us vs : List Token}
        → Opened _ _ K (mark choose ∷ mark round ∷ ts) → Ands n ts (mark comma ∷ us) b → Sum n us (mark comma ∷ vs) x
        → Opened _ _ (choose_second b x K) vs
    at_first_term : {n : ℕ} {K : Open limit Phrase.sum n} {ts : List Token}
        → Opened _ _ K ts → Opened _ _ (first_term K) ts
    at_next_term : {n : ℕ} {o : Operator} {a : Arith} {K : Open limit Phrase.sum n} {ts us : List Token}
        → additive o ≡ true → Opened _ _ K ts → Sum n ts (sign o ∷ us) a → Opened _ _ (next_term o a K) us
    at_first_factor : {n : ℕ} {K : Open limit Phrase.term n} {ts : List Token}
        → Opened _ _ K ts → Opened _ _ (first_factor K) ts
    at_next_factor : {n : ℕ} {o : Operator} {a : Arith} {K : Open limit Phrase.term n} {ts us : List Token}
        → additive o ≡ false → Opened _ _ K ts → Term n ts (sign o ∷ us) a → Opened _ _ (next_factor o a K) us

  -- the state S, with us still to come
  pub data At : State limit → List Token → Type 0 where
    at_want_statement : {n : ℕ} {K : Open limit Phrase.statement n} {us : List Token}
        → Opened _ _ K us → At (want_statement n K) us
    at_want_becomes : {n x : ℕ} {K : Open limit Phrase.statement n} {us : List Token}
        → Opened _ _ K (variable x ∷ us) → At (want_becomes n x K) us
    at_want_part : {n : ℕ} {K : Open limit Phrase.part n} {us : List Token} → Opened _ _ K us → At (want_part n K) us
    at_want_test : {n : ℕ} {K : Open limit Phrase.test n} {us : List Token} → Opened _ _ K us → At (want_test n K) us
    at_want_factor : {n : ℕ} {K : Open limit Phrase.factor n} {us : List Token}
        → Opened _ _ K us → At (want_factor n K) us
    at_want_open : {n : ℕ} {K : Open limit Phrase.factor (suc n)} {us : List Token}
        → Opened _ _ K (mark choose ∷ us) → At (want_open n K) us
    at_have : {h : Phrase} {n : ℕ} {K : Open limit h n} {v : Value h} {ts us : List Token}
        → Opened _ _ K ts → Reading h n ts us v → At (have h n K v) us
