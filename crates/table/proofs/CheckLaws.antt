-- The answer from its parts: what each test of the check settles, in the order of the numbers.
use mathlib.Core.Path.{◌≡◌, ap, ◌∙◌}
use mathlib.Core.Bool.{true, false}
use mathlib.Core.List.{List}
use mathlib.Core.Option.{none}
use Prim.Native.Nat.{ℕ, ◌<◌, ◌≤◌, min}
use native.Mathlib.Omega.{arith}
use borrow.Author.Tests.{ne_eqb, lt-ltb, le-ltb}
use Rattle.std.specs.Prelude.{Ok, Err}
use Rattle.rules.specs.Lists.{joined}
use Rattle.rules.specs.Refusal.{refusal, fine, refuse, refuse_lowest, ◌or_else◌}
use Rattle.rules.specs.Table.{nodes, root, statement, is_class, children, occurs, depth_at}
use Rattle.rules.specs.Table.{whole_table, node_fault, once_fault, table_refusal}
use Rattle.rules.specs.declared.Refusal.{Refusal}
use Rattle.rules.proofs.ListLaws.{some_or_else, some_refuse_lowest, none_refuse_lowest, refuse_lowest_none}
use Rattle.rules.proofs.TableLaws.{fine_once}
use Rattle.table.specs.Checking.{answer, checking}
use Rattle.table.specs.inside.Sets.{Marks, named, marks_of}
use Rattle.table.specs.inside.Steps.{tree_refusal, Sound}
use Rattle.table.proofs.Answer.{answer_done, answer_refused}
use Rattle.table.proofs.MarkLaws.{marks_say}

module _ (t : List ℕ) where
  pub refused_1 : whole_table t ≡ false → checking t ≡ Err (refusal 1 0)
  unfolding checking table_refusal answer ◌or_else◌ refuse
  refused_1 e = rw e

  checking_whole : whole_table t ≡ true → checking t ≡ answer (refuse_lowest (node_fault t) (nodes t) or_else tree_refusal t)
  unfolding checking table_refusal tree_refusal ◌or_else◌ refuse
  checking_whole e = rw e

  pub refused_2_to_6 : whole_table t ≡ true → (r : Refusal) → Err r ≡ answer (refuse_lowest (node_fault t) (nodes t))
      → checking t ≡ Err r
  unfolding answer
  refused_2_to_6 w r e =
      let o = refuse_lowest (node_fault t) (nodes t) in
      checking_whole w ∙ ap answer (some_or_else o (tree_refusal t) r (answer_refused o r e))

  pub sound_nodes : Ok tt ≡ answer (refuse_lowest (node_fault t) (nodes t)) → Sound t
  sound_nodes e = refuse_lowest_none (node_fault t) (nodes t) (answer_done _ e)

  pub checking_sound : whole_table t ≡ true → Sound t → checking t ≡ answer (tree_refusal t)
  unfolding ◌or_else◌
  checking_sound w s = checking_whole w ∙ rw (none_refuse_lowest (node_fault t) (nodes t) s)

-- refusals 7 to 9, from the root's row and the marks
module _ (t : List ℕ) where
  pub refused_7 : is_class t statement (root t) ≡ false → answer (tree_refusal t) ≡ Err (refusal 7 (root t))
  unfolding tree_refusal answer ◌or_else◌ refuse
  refused_7 e = rw e

  module _ (is_statement : is_class t statement (root t) ≡ true) (m : Marks) (marked : m ≡ marks_of t) (few : root t < 1024) where
    counted : (k : ℕ) → k < root t → named m k ≡ min 2 (occurs k (joined (children t) (nodes t)))
    counted k h = rw marked (marks_say t k (omega arith))

    once : (k : ℕ) → k < root t → named m k ≡ 1 → once_fault t k ≡ fine
    once k h e = fine_once t k (omega (arith, counted k h))

    pub refused_8 : (k : ℕ) → k < root t → ((j : ℕ) → j < k → named m j ≡ 1) → (named m k ≡ 1 → ⊥)
        → answer (tree_refusal t) ≡ Err (refusal 8 k)
    unfolding tree_refusal answer ◌or_else◌ refuse once_fault
    refused_8 k l before here =
        let not_once : occurs k (joined (children t) (nodes t)) ≡ 1 → ⊥ = λ e. here (omega (arith, counted k l)) in
        let eight : once_fault t k ≡ 8 = rw (ne_eqb (occurs k (joined (children t) (nodes t))) 1 not_once) in
        let found = some_refuse_lowest (once_fault t) (root t) k l (λ e. omega arith) (λ j h. once j (omega arith) (before j h)) in
        rw (is_statement, found, eight)

    module _ (ones : (k : ℕ) → k < root t → named m k ≡ 1) where
      all_once : refuse_lowest (once_fault t) (root t) ≡ none
      all_once = none_refuse_lowest (once_fault t) (root t) (λ k h. once k h (ones k h))

      pub refused_9 : 256 < depth_at t (root t) → answer (tree_refusal t) ≡ Err (refusal 9 0)
      unfolding tree_refusal answer ◌or_else◌ refuse
      refused_9 d = rw (is_statement, all_once, lt-ltb 256 (depth_at t (root t)) d)

      pub none_refused : depth_at t (root t) ≤ 256 → answer (tree_refusal t) ≡ Ok tt
      unfolding tree_refusal answer ◌or_else◌ refuse
      none_refused d = rw (is_statement, all_once, le-ltb 256 (depth_at t (root t)) d)
