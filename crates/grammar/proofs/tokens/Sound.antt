-- Whatever the machine reads, the grammar reads: each step carries the half-read tree of the grammar (Opened) on, and the end completes it.
use mathlib.Core.Path.{◌≡◌, subst}
use mathlib.Core.List.{List, [], ◌∷◌}
use mathlib.Core.Option.{Option, some}
use Prim.Native.Nat.{ℕ, zero, suc}
use Rattle.rules.specs.Expression.{Arith, Boole}
use Rattle.grammar.specs.Rule.{Rule}
use Rattle.grammar.specs.Token.{Token, mark, Mark}
use Rattle.grammar.specs.Token.{skip, if, then, else, end, while, does, choose, not, and}
use Rattle.grammar.specs.Token.{semicolon, becomes, comma, round, round_end, square, square_end}
use Rattle.grammar.specs.Grammar.{Row, Statement, Ands, Part, Test, Sum, Term, Factor}
use Rattle.grammar.specs.machine.Reader.{Phrase, Value, State, Open, whole, next_part, right_side, next_term}
use Rattle.grammar.specs.machine.Reader.{next_factor, want_part, want_factor, want_row, want_sum, want_term}
use Rattle.grammar.specs.machine.Reader.{◌or◌, on, on_sum, on_product, on_relation, after, nests_statement}
use Rattle.grammar.specs.machine.Reader.{nests_test, nests_factor, begins_statement, begins_factor, begins_test}
use Rattle.grammar.specs.machine.Reader.{begins_part, step, whole_rule, ends, next, reach, run}
use Rattle.grammar.proofs.tokens.Choices.{nothing, or_cases, on_some, number_some, variable_some}
use Rattle.grammar.proofs.tokens.Choices.{relation_some, truth_some, sum_some, product_some}
use Rattle.grammar.proofs.tokens.Runs.{Means, took}
use mathlib.Core.Logic.{⊎_elim}
use Rattle.grammar.proofs.tokens.Opened.{Reading, Opened, At, at_whole, at_follow, at_then, at_else, at_body}
use Rattle.grammar.proofs.tokens.Opened.{at_row, at_if, at_while, at_square, at_choose, at_first_part}
use Rattle.grammar.proofs.tokens.Opened.{at_next_part, at_plain, at_not, at_becomes, at_left, at_right}
use Rattle.grammar.proofs.tokens.Opened.{at_round, at_first, at_second, at_first_term, at_next_term}
use Rattle.grammar.proofs.tokens.Opened.{at_first_factor, at_next_factor, at_want_statement, at_want_becomes}
use Rattle.grammar.proofs.tokens.Opened.{at_want_part, at_want_test, at_want_factor, at_want_open, at_have}

module _ {limit : ℕ} (w : List Token) where
  becoming : {S R : State limit} {us : List Token} → S ≡ R → At w S us → At w R us
  becoming {us = us} e a = subst (λ (Q : State limit). At w Q us) e a

  -- the mark m, taken
  marked : (m : Mark) {S R : State limit} (t : Token) {us : List Token}
      → on m S t ≡ some R → (t ≡ mark m → At w S us) → At w R us
  marked m t e f = let k = on_some m t e in becoming k.1 (f k.0)

  either : (x y : Option (State limit)) {R : State limit} {us : List Token}
      → (x or y) ≡ some R → (x ≡ some R → At w R us) → (y ≡ some R → At w R us) → At w R us
  either x y e f g = ⊎_elim f g (or_cases x y e)

  -- a phrase grows by and, by a sign of sums, by a sign of products
  anded : {n : ℕ} {K : Open limit Phrase.ands n} {ts us : List Token} {R : State limit} (b : Boole) (t : Token)
      → Opened w _ _ K ts → Ands n ts (t ∷ us) b → on and (want_part n (next_part b K)) t ≡ some R → At w R us
  anded b t o d e = marked and t e (λ q. at_want_part (at_next_part o (rw q at d)))

  summed : {n : ℕ} {K : Open limit Phrase.sum n} {ts us : List Token} {R : State limit} (a : Arith) (t : Token)
      → Opened w _ _ K ts → Sum n ts (t ∷ us) a → on_sum (λ p. want_term n (next_term p a K)) t ≡ some R → At w R us
  summed a t o d e =
      let k = sum_some _ t e in
      let q = k.1 in
      becoming k.3 (at_want_factor (at_first_factor (at_next_term k.2 o (rw q at d))))

  multiplied : {n : ℕ} {K : Open limit Phrase.term n} {ts us : List Token} {R : State limit} (a : Arith) (t : Token)
      → Opened w _ _ K ts → Term n ts (t ∷ us) a → on_product (λ p. want_factor n (next_factor p a K)) t ≡ some R → At w R us
  multiplied a t o d e =
      let k = product_some _ t e in
      let q = k.1 in
      becoming k.3 (at_want_factor (at_next_factor k.2 o (rw q at d)))

  related : {n : ℕ} {K : Open limit Phrase.test n} {ts us : List Token} {R : State limit} (a : Arith) (t : Token)
      → Opened w _ _ K ts → Sum n ts (t ∷ us) a → on_relation (λ p. want_sum n (right_side p a K)) t ≡ some R → At w R us
  related a t o d e =
      let k = relation_some _ t e in
      let q = k.1 in
      becoming k.2 (at_want_factor (at_first_factor (at_first_term (at_right o (rw q at d)))))

  after_at : {h : Phrase} {n : ℕ} {K : Open limit h n} {ts us : List Token} {R : State limit}
      → Opened w h n K ts → (v : Value h) (t : Token) → Reading h n ts (t ∷ us) v → after K v t ≡ some R → At w R us
  unfolding after
  after_at at_whole v t d e = absurd (nothing e)
  after_at (at_follow o s) v t d e = after_at o _ t (Row.more s d) e
  after_at (at_then o c) v t d e = marked else t e (λ q. at_want_statement (at_row (at_else o c (rw q at d))))
  after_at (at_else o c p) v t d e = marked end t e (λ q. at_have o (Statement.ifs c p (rw q at d)))
  after_at (at_body o c) v t d e = marked end t e (λ q. at_have o (Statement.whiles c (rw q at d)))
  after_at (at_row o) v t d e =
      either _ _ e (λ f. marked semicolon t f (λ q. at_want_statement (at_row (at_follow o (rw q at d))))) (λ f. after_at o v t (Row.last d) f)
  after_at (at_if o) v t d e =
      either _ _ e (λ f. anded v t (at_if o) d f) (λ f. marked then t f (λ q. at_want_statement (at_row (at_then o (rw q at d)))))
  after_at (at_while o) v t d e =
      either _ _ e (λ f. anded v t (at_while o) d f) (λ f. marked does t f (λ q. at_want_statement (at_row (at_body o (rw q at d)))))
  after_at (at_square o) v t d e =
      either _ _ e (λ f. anded v t (at_square o) d f) (λ f. marked square_end t f (λ q. at_have o (Test.squares (rw q at d))))
  after_at (at_choose o) v t d e =
      either _ _ e (λ f. anded v t (at_choose o) d f)
      (λ f. marked comma t f (λ q. at_want_factor (at_first_factor (at_first_term (at_first o (rw q at d))))))
  after_at (at_first_part o) v t d e = after_at o v t (Ands.part d) e
  after_at (at_next_part o c) v t d e = after_at o _ t (Ands.ands c d) e
  after_at (at_plain o) v t d e = after_at o v t (Part.test d) e
  after_at (at_not o) v t d e = after_at o _ t (Part.nots d) e
  after_at (at_becomes o) v t d e = either _ _ e (λ f. summed v t (at_becomes o) d f) (λ f. after_at o _ t (Statement.assigns d) f)
  after_at (at_left o) v t d e = either _ _ e (λ f. summed v t (at_left o) d f) (λ f. related v t o d f)
  after_at (at_right o a) v t d e = either _ _ e (λ f. summed v t (at_right o a) d f) (λ f. after_at o _ t (Test.compares a d) f)
  after_at (at_round o) v t d e =
      either _ _ e (λ f. summed v t (at_round o) d f) (λ f. marked round_end t f (λ q. at_have o (Factor.brackets (rw q at d))))
  after_at (at_first o c) v t d e =
      either _ _ e (λ f. summed v t (at_first o c) d f)
      (λ f. marked comma t f (λ q. at_want_factor (at_first_factor (at_first_term (at_second o c (rw q at d))))))
  after_at (at_second o c x) v t d e =
      either _ _ e (λ f. summed v t (at_second o c x) d f) (λ f. marked round_end t f (λ q. at_have o (Factor.chooses c x (rw q at d))))
  after_at (at_first_term o) v t d e = either _ _ e (λ f. multiplied v t (at_first_term o) d f) (λ f. after_at o v t (Sum.term d) f)
  after_at (at_next_term i o a) v t d e =
      either _ _ e (λ f. multiplied v t (at_next_term i o a) d f) (λ f. after_at o _ t (Sum.sums i a d) f)
  after_at (at_first_factor o) v t d e = after_at o v t (Term.factor d) e
  after_at (at_next_factor i o a) v t d e = after_at o _ t (Term.products i a d) e

  -- ---- a phrase is wanted

  statement_at : (n : ℕ) {K : Open limit Phrase.statement n} (t : Token) {us : List Token} {R : State limit}
      → Opened w _ _ K (t ∷ us) → nests_statement n K t ≡ some R → At w R us
  unfolding nests_statement
  statement_at zero t o e = absurd (nothing e)
  statement_at (suc n) t o e =
      either _ _ e (λ f. marked if t f (λ q. at_want_part (at_first_part (at_if (rw q at o)))))
      (λ f. marked while t f (λ q. at_want_part (at_first_part (at_while (rw q at o)))))

  square_at : (n : ℕ) {K : Open limit Phrase.test n} (t : Token) {us : List Token} {R : State limit}
      → Opened w _ _ K (t ∷ us) → nests_test n K t ≡ some R → At w R us
  unfolding nests_test
  square_at zero t o e = absurd (nothing e)
  square_at (suc n) t o e = marked square t e (λ q. at_want_part (at_first_part (at_square (rw q at o))))

  bracket_at : (n : ℕ) {K : Open limit Phrase.factor n} (t : Token) {us : List Token} {R : State limit}
      → Opened w _ _ K (t ∷ us) → nests_factor n K t ≡ some R → At w R us
  unfolding nests_factor
  bracket_at zero t o e = absurd (nothing e)
  bracket_at (suc n) t o e =
      either _ _ e (λ f. marked round t f (λ q. at_want_factor (at_first_factor (at_first_term (at_round (rw q at o))))))
      (λ f. marked choose t f (λ q. at_want_open (rw q at o)))

  factor_at : (n : ℕ) {K : Open limit Phrase.factor n} (t : Token) {us : List Token} {R : State limit}
      → Opened w _ _ K (t ∷ us) → begins_factor n K t ≡ some R → At w R us
  unfolding begins_factor
  factor_at n t o e =
      either _ _ e (λ f. let k = number_some _ t f in let q = k.1 in becoming k.2 (at_have (rw q at o) Factor.numbers))
      (λ g. either _ _ g (λ f. let k = variable_some _ t f in let q = k.1 in becoming k.2 (at_have (rw q at o) Factor.variables))
      (λ f. bracket_at n t o f))

  test_at : (n : ℕ) {K : Open limit Phrase.test n} (t : Token) {us : List Token} {R : State limit}
      → Opened w _ _ K (t ∷ us) → begins_test n K t ≡ some R → At w R us
  unfolding begins_test
  test_at n t o e =
      either _ _ e (λ f. let k = truth_some _ t f in let q = k.1 in becoming k.2 (at_have (rw q at o) Test.truths))
      (λ g. either _ _ g (λ f. square_at n t o f) (λ f. factor_at n t (at_first_factor (at_first_term (at_left o))) f))

  step_at : {S R : State limit} {us : List Token} (t : Token) → At w S (t ∷ us) → step S t ≡ some R → At w R us
  unfolding step begins_statement begins_part
  step_at t (at_want_statement {n = n} o) e =
      either _ _ e (λ f. marked skip t f (λ q. at_have (rw q at o) Statement.skips))
      (λ g. either _ _ g (λ f. let k = variable_some _ t f in let q = k.1 in becoming k.2 (at_want_becomes (rw q at o)))
      (λ f. statement_at n t o f))
  step_at t (at_want_becomes o) e = marked becomes t e (λ q. at_want_factor (at_first_factor (at_first_term (at_becomes (rw q at o)))))
  step_at t (at_want_part {n = n} o) e =
      either _ _ e (λ f. marked not t f (λ q. at_want_test (at_not (rw q at o)))) (λ f. test_at n t (at_plain o) f)
  step_at t (at_want_test {n = n} o) e = test_at n t o e
  step_at t (at_want_factor {n = n} o) e = factor_at n t o e
  step_at t (at_want_open o) e = marked round t e (λ q. at_want_part (at_first_part (at_choose (rw q at o))))
  step_at t (at_have o d) e = after_at o _ t d e

  -- ---- the end

  whole_at : {h : Phrase} {n : ℕ} {K : Open limit h n} {ts : List Token} {r : Rule}
      → Opened w h n K ts → (v : Value h) → Reading h n ts [] v → whole_rule K v ≡ some r → Row limit w [] r
  unfolding whole_rule
  whole_at at_whole v d e = subst (λ (p : Rule). Row limit w [] p) (cc) d
  whole_at (at_follow o s) v d e = whole_at o _ (Row.more s d) e
  whole_at (at_then o c) v d e = absurd (nothing e)
  whole_at (at_else o c p) v d e = absurd (nothing e)
  whole_at (at_body o c) v d e = absurd (nothing e)
  whole_at (at_row o) v d e = whole_at o v (Row.last d) e
  whole_at (at_if o) v d e = absurd (nothing e)
  whole_at (at_while o) v d e = absurd (nothing e)
  whole_at (at_square o) v d e = absurd (nothing e)
  whole_at (at_choose o) v d e = absurd (nothing e)
  whole_at (at_first_part o) v d e = absurd (nothing e)
  whole_at (at_next_part o c) v d e = absurd (nothing e)
  whole_at (at_plain o) v d e = absurd (nothing e)
  whole_at (at_not o) v d e = absurd (nothing e)
  whole_at (at_becomes o) v d e = whole_at o _ (Statement.assigns d) e
  whole_at (at_left o) v d e = absurd (nothing e)
  whole_at (at_right o a) v d e = absurd (nothing e)
  whole_at (at_round o) v d e = absurd (nothing e)
  whole_at (at_first o c) v d e = absurd (nothing e)
  whole_at (at_second o c x) v d e = absurd (nothing e)
  whole_at (at_first_term o) v d e = whole_at o v (Sum.term d) e
  whole_at (at_next_term i o a) v d e = whole_at o _ (Sum.sums i a d) e
  whole_at (at_first_factor o) v d e = whole_at o v (Term.factor d) e
  whole_at (at_next_factor i o a) v d e = whole_at o _ (Term.products i a d) e

  ends_at : {S : State limit} {r : Rule} → At w S [] → ends S ≡ some r → Row limit w [] r
  unfolding ends
  ends_at (at_want_statement o) e = absurd (nothing e)
  ends_at (at_want_becomes o) e = absurd (nothing e)
  ends_at (at_want_part o) e = absurd (nothing e)
  ends_at (at_want_test o) e = absurd (nothing e)
  ends_at (at_want_factor o) e = absurd (nothing e)
  ends_at (at_want_open o) e = absurd (nothing e)
  ends_at (at_have o d) e = whole_at o _ d e

  run_at : {S : State limit} {r : Rule} (us : List Token) → At w S us → Means S us r → Row limit w [] r
  unfolding run reach next
  run_at [] a m = ends_at a m.is
  run_at {S = S} {r = r} (t ∷ us) a m = let k = took m in run_at {S = k.0} {r = r} us (step_at t a k.1.is) k.2

pub row_read : {limit : ℕ} {w : List Token} {r : Rule} → Means (want_row limit whole) w r → Row limit w [] r
row_read {w = w} m = run_at w w (at_want_statement (at_row at_whole)) m
