-- `Row n ts us p` speaks of the tokens of ts up to where us is left and of no others: there is such a row of tokens, and it is as good
-- before any others. So for every phrase of the grammar.
use mathlib.Core.Path.{◌≡◌, refl, sym, ap, ◌∙◌, subst}
use mathlib.Core.List.{List, [], ◌∷◌, ◌++◌, append_assoc}
use Prim.Native.Nat.{ℕ}
use Rattle.rules.specs.Expression.{Arith, Boole}
use Rattle.grammar.specs.Rule.{Rule}
use Rattle.grammar.specs.Token.{Token}
use Rattle.grammar.specs.Grammar.{Row, Statement, Ands, Part, Test, Sum, Term, Factor}

pub record Span (D : List Token → List Token → Type 0) (ts us : List Token) : Type 0 where
  pub tokens : List Token
  pub is : ts ≡ tokens ++ us
  pub frame : (vs : List Token) → D (tokens ++ vs) vs

-- D, read as E
mapped : (D E : List Token → List Token → Type 0) {ts us : List Token}
    → ((xs ys : List Token) → D xs ys → E xs ys) → Span D ts us → Span E ts us
mapped D E f s = record { tokens = s.tokens; is = s.is; frame = λ vs. f _ _ (s.frame vs) }

-- the token t, and then D
before : (D E : List Token → List Token → Type 0) (t : Token) {ts us : List Token}
    → ((xs ys : List Token) → D xs ys → E (t ∷ xs) ys) → Span D ts us → Span E (t ∷ ts) us
before D E t f s = record { tokens = t ∷ s.tokens; is = ap (λ (l : List Token). t ∷ l) s.is; frame = λ vs. f _ _ (s.frame vs) }

-- D, and then the token t
closed : (D E : List Token → List Token → Type 0) (t : Token) {ts us : List Token}
    → ((xs ys : List Token) → D xs (t ∷ ys) → E xs ys) → Span D ts (t ∷ us) → Span E ts us
closed D E t {ts} {us} f s = record {
  tokens = s.tokens ++ (t ∷ []);
  is = s.is ∙ sym (append_assoc s.tokens (t ∷ []) us);
  frame = λ vs. subst (λ (l : List Token). E l vs) (sym (append_assoc s.tokens (t ∷ []) vs)) (f _ _ (s.frame (t ∷ vs)));
}

-- D, the token t, and then E
joined : (D E F : List Token → List Token → Type 0) (t : Token) {ts us vs : List Token}
    → ((xs ys zs : List Token) → D xs (t ∷ ys) → E ys zs → F xs zs) → Span D ts (t ∷ us) → Span E us vs → Span F ts vs
joined D E F t {ts} {us} {vs} f s r = record {
  tokens = s.tokens ++ (t ∷ r.tokens);
  is = s.is ∙ ap (λ (l : List Token). s.tokens ++ (t ∷ l)) r.is ∙ sym (append_assoc s.tokens (t ∷ r.tokens) vs);
  frame = λ ws. subst (λ (l : List Token). F l ws) (sym (append_assoc s.tokens (t ∷ r.tokens) ws))
      (f _ _ _ (s.frame (t ∷ (r.tokens ++ ws))) (r.frame ws));
}

-- the same, as they stand
pub record Both (D E : List Token → List Token → Type 0) (t : Token) (xs zs : List Token) : Type 0 where
  pub between : List Token
  pub first : D xs (t ∷ between)
  pub second : E between zs

both : (D E : List Token → List Token → Type 0) (t : Token) {ts us vs : List Token}
    → Span D ts (t ∷ us) → Span E us vs → Span (Both D E t) ts vs
both D E t s r = joined D E (Both D E t) t (λ xs ys zs x y. record { between = ys; first = x; second = y }) s r

ended : (D : List Token → List Token → Type 0) (t : Token) {ts us : List Token}
    → Span D ts (t ∷ us) → Span (λ xs ys. D xs (t ∷ ys)) ts us
ended D t s = closed D (λ xs ys. D xs (t ∷ ys)) t (λ xs ys x. x) s

mutual
  pub row_span : {n : ℕ} {ts us : List Token} {p : Rule} → Row n ts us p → Span (λ xs ys. Row n xs ys p) ts us
  row_span (Row.last d) = mapped _ _ (λ xs ys x. Row.last x) (statement_span d)
  row_span (Row.more d e) = joined _ _ _ _ (λ xs ys zs x y. Row.more x y) (statement_span d) (row_span e)

  pub statement_span : {n : ℕ} {ts us : List Token} {s : Rule}
      → Statement n ts us s → Span (λ xs ys. Statement n xs ys s) ts us
  statement_span Statement.skips = record { tokens = _ ∷ []; is = refl; frame = λ vs. Statement.skips }
  statement_span (Statement.assigns d) = before _ _ _ (λ xs ys x. x) (before _ _ _ (λ xs ys x. Statement.assigns x) (sum_span d))
  statement_span (Statement.ifs b p q) =
      before _ _ _ (λ xs ys x. Statement.ifs x.first x.second.first x.second.second)
      (both _ _ _ (ands_span b) (both _ _ _ (row_span p) (ended _ _ (row_span q))))
  statement_span (Statement.whiles b p) =
      before _ _ _ (λ xs ys x. Statement.whiles x.first x.second) (both _ _ _ (ands_span b) (ended _ _ (row_span p)))

  pub ands_span : {n : ℕ} {ts us : List Token} {b : Boole} → Ands n ts us b → Span (λ xs ys. Ands n xs ys b) ts us
  ands_span (Ands.part d) = mapped _ _ (λ xs ys x. Ands.part x) (part_span d)
  ands_span (Ands.ands d e) = joined _ _ _ _ (λ xs ys zs x y. Ands.ands x y) (ands_span d) (part_span e)

  pub part_span : {n : ℕ} {ts us : List Token} {b : Boole} → Part n ts us b → Span (λ xs ys. Part n xs ys b) ts us
  part_span (Part.test d) = mapped _ _ (λ xs ys x. Part.test x) (test_span d)
  part_span (Part.nots d) = before _ _ _ (λ xs ys x. Part.nots x) (test_span d)

  pub test_span : {n : ℕ} {ts us : List Token} {b : Boole} → Test n ts us b → Span (λ xs ys. Test n xs ys b) ts us
  test_span Test.truths = record { tokens = _ ∷ []; is = refl; frame = λ vs. Test.truths }
  test_span (Test.compares d e) = joined _ _ _ _ (λ xs ys zs x y. Test.compares x y) (sum_span d) (sum_span e)
  test_span (Test.squares d) = before _ _ _ (λ xs ys x. Test.squares x) (ended _ _ (ands_span d))

  pub sum_span : {n : ℕ} {ts us : List Token} {a : Arith} → Sum n ts us a → Span (λ xs ys. Sum n xs ys a) ts us
  sum_span (Sum.term d) = mapped _ _ (λ xs ys x. Sum.term x) (term_span d)
  sum_span (Sum.sums i d e) = joined _ _ _ _ (λ xs ys zs x y. Sum.sums i x y) (sum_span d) (term_span e)

  pub term_span : {n : ℕ} {ts us : List Token} {a : Arith} → Term n ts us a → Span (λ xs ys. Term n xs ys a) ts us
  term_span (Term.factor d) = mapped _ _ (λ xs ys x. Term.factor x) (factor_span d)
  term_span (Term.products i d e) = joined _ _ _ _ (λ xs ys zs x y. Term.products i x y) (term_span d) (factor_span e)

  pub factor_span : {n : ℕ} {ts us : List Token} {a : Arith} → Factor n ts us a → Span (λ xs ys. Factor n xs ys a) ts us
  factor_span Factor.numbers = record { tokens = _ ∷ []; is = refl; frame = λ vs. Factor.numbers }
  factor_span Factor.variables = record { tokens = _ ∷ []; is = refl; frame = λ vs. Factor.variables }
  factor_span (Factor.brackets d) = before _ _ _ (λ xs ys x. Factor.brackets x) (ended _ _ (sum_span d))
  factor_span (Factor.chooses b d e) =
      before _ _ _ (λ xs ys x. x) (before _ _ _ (λ xs ys x. Factor.chooses x.first x.second.first x.second.second)
      (both _ _ _ (ands_span b) (both _ _ _ (sum_span d) (ended _ _ (sum_span e)))))
