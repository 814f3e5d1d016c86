-- The order in which a run of code is refused: table, store, start label, code; and what holds where it is not.
use mathlib.Core.Path.{◌≡◌}
use mathlib.Core.Bool.{Bool, true, false}
use mathlib.Core.List.{List}
use mathlib.Core.Option.{Option, none, some}
use Prim.Native.Nat.{ℕ, ◌<◌, ◌≤◌}
use lib.Dec.{ltb}
use borrow.Author.Tests.{ltb-false, lt-ltb, le-ltb}
use Rattle.rules.specs.Table.{table_refusal, Accepted}
use Rattle.rules.specs.CodeWords.{code_refusal}
use Rattle.rules.specs.Refusal.{refusal, refuse, ◌or_else◌}
use Rattle.rules.specs.declared.Refusal.{Refusal}
use Rattle.rules.proofs.ListLaws.{or_else_none, refuse_none}
use Rattle.table.specs.Checking.{answer}
use Rattle.instructions.specs.Admission.{admission}
use Rattle.std.specs.Prelude.{Err}

module _ (t c : List ℕ) (start : ℕ) where
  module _ (unfit : Bool) where
    pub refused_table : (r : Refusal) → table_refusal t ≡ some r → answer (admission t c start (refuse unfit 10 0)) ≡ Err r
    unfolding admission ◌or_else◌ answer
    refused_table r e = rw e

    module _ (table : Accepted t) where
      pub refused_store : unfit ≡ true → answer (admission t c start (refuse unfit 10 0)) ≡ Err (refusal 10 0)
      unfolding admission refuse ◌or_else◌ answer
      refused_store e = rw (table, e)

      module _ (store : unfit ≡ false) where
        pub refused_start : 65535 < start → answer (admission t c start (refuse unfit 10 0)) ≡ Err (refusal 11 0)
        unfolding admission refuse ◌or_else◌ answer
        refused_start h = rw (table, store, lt-ltb 65535 start h)

        pub code_decides : start ≤ 65535 → answer (admission t c start (refuse unfit 10 0)) ≡ answer (code_refusal t c)
        unfolding admission refuse ◌or_else◌
        code_decides h = rw (table, store, le-ltb 65535 start h)

  -- where a run is not refused
  pub record Admits (ten : Option Refusal) : Type 0 where
    pub table : Accepted t
    pub store : ten ≡ none
    pub label : start ≤ 65535
    pub code : code_refusal t c ≡ none

  pub admits : (ten : Option Refusal) → admission t c start ten ≡ none → Admits ten
  unfolding admission
  admits ten e =
      let table = or_else_none (table_refusal t) _ e in
      let store = or_else_none ten _ table.1 in
      let label = or_else_none (refuse (ltb 65535 start) 11 0) (code_refusal t c) store.1 in
      record { table = table.0; store = store.0; label = ltb-false _ _ (refuse_none _ 11 0 label.0); code = label.1 }

  -- and the other way
  pub unrefused : {ten : Option Refusal} → Admits ten → admission t c start ten ≡ none
  unfolding admission refuse ◌or_else◌
  unrefused a = rw (a.table, a.store, le-ltb 65535 start a.label) a.code
