-- What the checks of a code run find: what the run stands on where they refuse nothing, and the other way.
use mathlib.Core.Path.{◌≡◌, refl}
use mathlib.Core.List.{List}
use mathlib.Core.Option.{none}
use Prim.Native.Nat.{ℕ, ◌≤◌}
use lib.ListN.{length}
use borrow.Author.Tests.{eqb-true, eq-eqb, not-false}
use Rattle.rules.specs.Expression.{Store}
use Rattle.rules.specs.Table.{Accepted}
use Rattle.rules.specs.CodeWords.{code_refusal}
use Rattle.rules.specs.Refusal.{refuse}
use Rattle.rules.specs.StoreRefusal.{store_refusal}
use Rattle.rules.proofs.ListLaws.{refuse_none}
use Rattle.instructions.proofs.Order.{admits, unrefused}
use Rattle.code.specs.CodeRun.{code_run_refusal}
use Rattle.code.specs.inside.Running.{Admitted}

module _ (t c : List ℕ) (start : ℕ) (σ : Store) where
  pub admitted : code_run_refusal t c start σ ≡ none → Admitted t c σ
  unfolding code_run_refusal store_refusal
  admitted e =
      let a = admits t c start _ e in
      record { table = a.table; code = a.code; store = eqb-true (length σ) 32 (not-false _ (refuse_none _ 10 0 a.store)) }

  pub not_refused : Accepted t → length σ ≡ 32 → start ≤ 65535 → code_refusal t c ≡ none → code_run_refusal t c start σ ≡ none
  unfolding code_run_refusal store_refusal refuse
  not_refused table values label code =
      unrefused t c start (record { table = table; store = rw (eq-eqb (length σ) 32 values) refl; label = label; code = code })
