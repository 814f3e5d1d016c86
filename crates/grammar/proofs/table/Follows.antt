-- A statement of a table that says a rule (ReadBack) has the evaluations of the rule and no others, at the same costs, and the same
-- unfinished runs. So the table that is written of a text in the grammar does what the tree does.
use mathlib.Core.Path.{◌≡◌, refl}
use mathlib.Core.List.{List}
use Prim.Native.Nat.{ℕ}
use native.Mathlib.Omega.{arith}
use Rattle.rules.specs.Expression.{Store}
use Rattle.rules.specs.While
use Rattle.rules.specs.While.{Stm, count}
use Rattle.rules.specs.Table.{meaning, program}
use Rattle.grammar.specs.Rule.{Rule}
use Rattle.grammar.specs.Layout.{InGrammar}
use Rattle.grammar.specs.Written.{table_of}
use Rattle.grammar.specs.Evaluation.{Follows, Evaluates, assign_ns, skip_ns, comp_ns, if_tt_ns, if_ff_ns}
use Rattle.grammar.specs.Evaluation.{while_tt_ns, while_ff_ns, Unfinished, at_assign, in_first, in_second}
use Rattle.grammar.specs.Evaluation.{at_test, in_then, at_then_end, in_else, at_while_test, in_body}
use Rattle.grammar.specs.Evaluation.{at_pass_end, in_next_pass}
use Rattle.grammar.proofs.table.ReadBack.{Says, says_skip, says_assign, says_seq, says_if, says_while, read_back}

module _ (t : List ℕ) where
  -- what the statement does, the rule does

  rule_evaluates : {s : Stm} {r : Rule} {σ σ' : Store}
      → Says t s r → (d : While.Evaluates (meaning t) s σ σ') → Evaluates r σ (count d) σ'
  unfolding count meaning
  rule_evaluates says_skip While.skip_ns = skip_ns
  rule_evaluates (says_assign e) While.assign_ns = rw (← e) assign_ns
  rule_evaluates (says_seq x y) (While.comp_ns d e) = comp_ns (rule_evaluates x d) (rule_evaluates y e)
  rule_evaluates (says_if e x y) (While.if_tt_ns h d) = if_tt_ns (rw e at h) (rule_evaluates x d)
  rule_evaluates (says_if e x y) (While.if_ff_ns h d) = if_ff_ns (rw e at h) (rule_evaluates y d)
  rule_evaluates (says_while e x) (While.while_tt_ns h d f) =
      while_tt_ns (rw e at h) (rule_evaluates x d) (rule_evaluates (says_while e x) f)
  rule_evaluates (says_while e x) (While.while_ff_ns h) = while_ff_ns (rw e at h)

  rule_unfinished : {s : Stm} {r : Rule} {σ σ' : Store} {n : ℕ}
      → Says t s r → While.Unfinished (meaning t) s σ n σ' → Unfinished r σ n σ'
  unfolding meaning
  rule_unfinished says_skip u = elim u [ ]
  rule_unfinished (says_assign e) While.at_assign = at_assign
  rule_unfinished (says_seq x y) (While.in_first u) = in_first (rule_unfinished x u)
  rule_unfinished (says_seq x y) (While.in_second d u) = in_second (rule_evaluates x d) (rule_unfinished y u)
  rule_unfinished (says_if e x y) While.at_test = at_test
  rule_unfinished (says_if e x y) (While.in_then h u) = in_then (rw e at h) (rule_unfinished x u)
  rule_unfinished (says_if e x y) (While.at_then_end h d) = at_then_end (rw e at h) (rule_evaluates x d)
  rule_unfinished (says_if e x y) (While.in_else h u) = in_else (rw e at h) (rule_unfinished y u)
  rule_unfinished (says_while e x) While.at_while_test = at_while_test
  rule_unfinished (says_while e x) (While.in_body h u) = in_body (rw e at h) (rule_unfinished x u)
  rule_unfinished (says_while e x) (While.at_pass_end h d) = at_pass_end (rw e at h) (rule_evaluates x d)
  rule_unfinished (says_while e x) (While.in_next_pass h d u) =
      in_next_pass (rw e at h) (rule_evaluates x d) (rule_unfinished (says_while e x) u)

  -- what the rule does, the statement does

  statement_evaluates : {s : Stm} {r : Rule} {σ σ' : Store} {n : ℕ} → Says t s r → Evaluates r σ n σ'
      → (d : While.Evaluates (meaning t) s σ σ') × (count d ≡ n)
  unfolding count meaning
  statement_evaluates says_skip skip_ns = (While.skip_ns, refl)
  statement_evaluates (says_assign e) assign_ns = rw (← e) (While.assign_ns, refl)
  statement_evaluates (says_seq x y) (comp_ns d f) =
      let a = statement_evaluates x d in
      let b = statement_evaluates y f in
      (While.comp_ns a.0 b.0, omega (arith, a.1, b.1))
  statement_evaluates (says_if e x y) (if_tt_ns h d) =
      let a = statement_evaluates x d in (While.if_tt_ns (rw (← e) at h) a.0, omega (arith, a.1))
  statement_evaluates (says_if e x y) (if_ff_ns h d) =
      let a = statement_evaluates y d in (While.if_ff_ns (rw (← e) at h) a.0, omega (arith, a.1))
  statement_evaluates (says_while e x) (while_tt_ns h d f) =
      let a = statement_evaluates x d in
      let b = statement_evaluates (says_while e x) f in
      (While.while_tt_ns (rw (← e) at h) a.0 b.0, omega (arith, a.1, b.1))
  statement_evaluates (says_while e x) (while_ff_ns h) = (While.while_ff_ns (rw (← e) at h), refl)

  statement_unfinished : {s : Stm} {r : Rule} {σ σ' : Store} {n : ℕ}
      → Says t s r → Unfinished r σ n σ' → While.Unfinished (meaning t) s σ n σ'
  unfolding meaning
  statement_unfinished says_skip u = elim u [ ]
  statement_unfinished (says_assign e) at_assign = While.at_assign
  statement_unfinished (says_seq x y) (in_first u) = While.in_first (statement_unfinished x u)
  statement_unfinished (says_seq x y) (in_second d u) =
      let a = statement_evaluates x d in rw (← a.1) (While.in_second a.0 (statement_unfinished y u))
  statement_unfinished (says_if e x y) at_test = While.at_test
  statement_unfinished (says_if e x y) (in_then h u) = While.in_then (rw (← e) at h) (statement_unfinished x u)
  statement_unfinished (says_if e x y) (at_then_end h d) =
      let a = statement_evaluates x d in rw (← a.1) (While.at_then_end (rw (← e) at h) a.0)
  statement_unfinished (says_if e x y) (in_else h u) = While.in_else (rw (← e) at h) (statement_unfinished y u)
  statement_unfinished (says_while e x) at_while_test = While.at_while_test
  statement_unfinished (says_while e x) (in_body h u) = While.in_body (rw (← e) at h) (statement_unfinished x u)
  statement_unfinished (says_while e x) (at_pass_end h d) =
      let a = statement_evaluates x d in rw (← a.1) (While.at_pass_end (rw (← e) at h) a.0)
  statement_unfinished (says_while e x) (in_next_pass h d u) =
      let a = statement_evaluates x d in
      rw (← a.1) (While.in_next_pass (rw (← e) at h) a.0 (statement_unfinished (says_while e x) u))

  pub says_follows : {s : Stm} {r : Rule} → Says t s r → Follows (meaning t) s r
  says_follows x = record {
    evaluates = λ d. rule_evaluates x d;
    evaluated = λ d. statement_evaluates x d;
    unfinished = λ u. rule_unfinished x u;
    owed = λ u. statement_unfinished x u;
  }

-- the table that is written of a text does what the tree does that the text reads as
pub follows : {text : List ℕ} {r : Rule} → InGrammar text r → Follows (meaning (table_of r)) (program (table_of r)) r
follows {r = r} g = says_follows (table_of r) (read_back g)
