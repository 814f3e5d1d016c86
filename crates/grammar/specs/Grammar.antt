-- The grammar of A4, on tokens. `Sum n ts us a` says: the tokens of ts up to where us is left are a sum that reads as a, with n levels
-- of nesting still allowed; and so for the other phrases. A bracket, a choose, an if and a while each take one level for all that
-- stands in them.
use Rattle.std.specs.Prelude.{◌≡◌, ℕ, suc, Bool, true, false, List, [], ◌∷◌, pos}
use Rattle.rules.specs.Expression.{Arith, Boole, Operator, plus, minus, times, over, rest, Relation}
use Rattle.grammar.specs.Rule.{Rule}
use Rattle.grammar.specs.Token.{Token, number, variable, sign, relation, truth, mark}
use Rattle.grammar.specs.Token.{skip, if, then, else, end, while, does, choose, not, and}
use Rattle.grammar.specs.Token.{semicolon, becomes, comma, round, round_end, square, square_end}

-- "+ and - below *, / and %"
unfoldable pub additive : Operator → Bool
additive plus = true
additive minus = true
additive times = false
additive over = false
additive rest = false

mutual
  -- "P is one or more statements separated by ;", "a row of statements groups to the right"
  pub data Row : ℕ → List Token → List Token → Rule → Type 0 where
    last : {n : ℕ} {ts us : List Token} {s : Rule} → Statement n ts us s → Row n ts us s
    more : {n : ℕ} {ts us vs : List Token} {s p : Rule}
        → Statement n ts (mark semicolon ∷ us) s → Row n us vs p → Row n ts vs (Rule.seq s p)

  -- "skip, v7 := a, if b then P else P end, while b do P end"
  pub data Statement : ℕ → List Token → List Token → Rule → Type 0 where
    skips : {n : ℕ} {us : List Token} → Statement n (mark skip ∷ us) us Rule.skip
    assigns : {n x : ℕ} {ts us : List Token} {a : Arith}
        → Sum n ts us a → Statement n (variable x ∷ mark becomes ∷ ts) us (Rule.assign x a)
    ifs : {n : ℕ} {ts us vs ws : List Token} {b : Boole} {p q : Rule}
        → Ands n ts (mark then ∷ us) b → Row n us (mark else ∷ vs) p → Row n vs (mark end ∷ ws) q
        → Statement (suc n) (mark if ∷ ts) ws (Rule.if b p q)
    whiles : {n : ℕ} {ts us vs : List Token} {b : Boole} {p : Rule}
        → Ands n ts (mark does ∷ us) b → Row n us (mark end ∷ vs) p
        → Statement (suc n) (mark while ∷ ts) vs (Rule.while b p)

  -- "joined by and to the left"
  pub data Ands : ℕ → List Token → List Token → Boole → Type 0 where
    part : {n : ℕ} {ts us : List Token} {b : Boole} → Part n ts us b → Ands n ts us b
    ands : {n : ℕ} {ts us vs : List Token} {b c : Boole}
        → Ands n ts (mark and ∷ us) b → Part n us vs c → Ands n ts vs (Boole.both b c)

  -- "not before one of these five or a bracketed one"
  pub data Part : ℕ → List Token → List Token → Boole → Type 0 where
    test : {n : ℕ} {ts us : List Token} {b : Boole} → Test n ts us b → Part n ts us b
    nots : {n : ℕ} {ts us : List Token} {b : Boole}
        → Test n ts us b → Part n (mark not ∷ ts) us (Boole.negation b)

  -- "true, false, a = a, a <= a, a < a", "with square brackets for grouping"
  pub data Test : ℕ → List Token → List Token → Boole → Type 0 where
    truths : {n : ℕ} {us : List Token} {v : Bool} → Test n (truth v ∷ us) us (Boole.truth v)
    compares : {n : ℕ} {ts us vs : List Token} {o : Relation} {a b : Arith}
        → Sum n ts (relation o ∷ us) a → Sum n us vs b → Test n ts vs (Boole.compare o a b)
    squares : {n : ℕ} {ts us : List Token} {b : Boole}
        → Ands n ts (mark square_end ∷ us) b → Test (suc n) (mark square ∷ ts) us b

  -- "+ and - below …, all grouping to the left"
  pub data Sum : ℕ → List Token → List Token → Arith → Type 0 where
    term : {n : ℕ} {ts us : List Token} {a : Arith} → Term n ts us a → Sum n ts us a
    sums : {n : ℕ} {ts us vs : List Token} {o : Operator} {a b : Arith}
        → additive o ≡ true → Sum n ts (sign o ∷ us) a → Term n us vs b → Sum n ts vs (Arith.binary o a b)

  -- "*, / and %, all grouping to the left"
  pub data Term : ℕ → List Token → List Token → Arith → Type 0 where
    factor : {n : ℕ} {ts us : List Token} {a : Arith} → Factor n ts us a → Term n ts us a
    products : {n : ℕ} {ts us vs : List Token} {o : Operator} {a b : Arith}
        → additive o ≡ false → Term n ts (sign o ∷ us) a → Factor n us vs b → Term n ts vs (Arith.binary o a b)

  -- "over whole numbers …, variables …, round brackets, and choose(b, a, a)"
  pub data Factor : ℕ → List Token → List Token → Arith → Type 0 where
    numbers : {n k : ℕ} {us : List Token} → Factor n (number k ∷ us) us (Arith.number (pos k))
    variables : {n x : ℕ} {us : List Token} → Factor n (variable x ∷ us) us (Arith.variable x)
    brackets : {n : ℕ} {ts us : List Token} {a : Arith}
        → Sum n ts (mark round_end ∷ us) a → Factor (suc n) (mark round ∷ ts) us a
    chooses : {n : ℕ} {ts us vs ws : List Token} {b : Boole} {x y : Arith}
        → Ands n ts (mark comma ∷ us) b → Sum n us (mark comma ∷ vs) x → Sum n vs (mark round_end ∷ ws) y
        → Factor (suc n) (mark choose ∷ mark round ∷ ts) ws (Arith.choose b x y)

-- "By this grammar brackets, chooses (with their brackets), ifs and whiles together nest at most 256 deep."
abbrev pub nesting : ℕ
nesting = 256

-- all the tokens are a P
abbrev pub Reads : List Token → Rule → Type 0
Reads ts r = Row nesting ts [] r
