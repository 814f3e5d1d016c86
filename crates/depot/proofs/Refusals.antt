-- Which refusal a depot is given when: 10 and 16 in exactly their stated cases; and what the crews' runs stand on where there is none.
use mathlib.Core.Path.{◌≡◌, refl, sym, ◌∙◌}
use mathlib.Core.Bool.{Bool, true, false, not, ◌&&◌}
use mathlib.Core.Logic.{⊎_elim}
use mathlib.Core.List.{List}
use mathlib.Core.Option.{Option, none, some}
use Prim.Native.Nat.{ℕ, ◌*◌, ◌%◌, ◌<◌, ◌≤◌}
use native.Mathlib.Omega.{arith}
use lib.Dec.{eqb, ltb, leb, lit≤}
use lib.IntN.{ℤ}
use lib.ListN.{length, drop, length-drop}
use lib.Seq.{length-take-le}
use borrow.Author.Tests.{eqb-true, eq-eqb, leb-true, le-leb, ltb-true, ltb-false, lt-ltb, le-ltb, not-false}
use Rattle.rules.specs.Table.{table_refusal, Accepted}
use Rattle.rules.specs.CodeWords.{code_refusal}
use Rattle.rules.specs.Refusal.{refusal, refuse, ◌or_else◌}
use Rattle.rules.specs.declared.Refusal.{Refusal}
use Rattle.rules.proofs.ListLaws.{and_true, refuse_none, refuse_some, or_else_none, or_else_some, none_or_else}
use Rattle.rules.proofs.NumberLaws.{Numbered, refuse_numbered, or_else_numbered, numbered_more, not_numbered, table_number, code_number}
use Rattle.instructions.specs.Admission.{admission}
use Rattle.instructions.proofs.Order.{admits, unrefused}
use Rattle.code.proofs.Checks.{not_refused}
use Rattle.depot.specs.Depot.{crews, crew, stores_refusal, depot_refusal}
use Rattle.depot.specs.DepotSays.{StoresFit, AllButRoom}
use Rattle.depot.specs.inside.Ready.{Ready}

-- ---- 10

-- what the test of the length tells
stores_fit : (stores : List ℤ) → (eqb (length stores % 32) 0 && leb (length stores) 16384) ≡ true → StoresFit stores
stores_fit stores e =
    let both = and_true (eqb (length stores % 32) 0) (leb (length stores) 16384) e in
    record { whole = eqb-true _ 0 both.0; few = leb-true _ _ both.1 }

fit_unrefused : (stores : List ℤ) → StoresFit stores → stores_refusal stores ≡ none
unfolding refuse
fit_unrefused stores fit = rw (eq-eqb (length stores % 32) 0 fit.whole, le-leb (length stores) 16384 fit.few) refl

unfit_refused : (stores : List ℤ) → (StoresFit stores → ⊥) → stores_refusal stores ≡ some (refusal 10 0)
unfolding refuse
unfit_refused stores unfit = go (eqb (length stores % 32) 0 && leb (length stores) 16384) refl
  where
    go : (b : Bool) → (eqb (length stores % 32) 0 && leb (length stores) 16384) ≡ b → refuse (not b) 10 0 ≡ some (refusal 10 0)
    go true e = absurd (unfit (stores_fit stores e))
    go false e = refl

module _ (t c : List ℕ) (start : ℕ) (stores : List ℤ) (room : List ℕ) where
  abbrev short : Option Refusal
  short = refuse (ltb (length room) (3 * crews stores)) 16 0

  -- what comes after 10, and what comes before 16
  after_10 : Numbered (λ k. 10 < k) (refuse (ltb 65535 start) 11 0 or_else code_refusal t c)
  after_10 = or_else_numbered (refuse_numbered _ 11 0 (lit≤ tt, lit≤ tt) (lit≤ tt)) (numbered_more (λ k e. omega arith) (code_number t c))

  before_16 : Numbered (λ k. k < 16) (admission t c start (stores_refusal stores))
  unfolding admission
  before_16 =
      or_else_numbered (numbered_more (λ k h. omega arith) (table_number t))
      (or_else_numbered (refuse_numbered _ 10 0 (lit≤ tt, lit≤ tt) (lit≤ tt))
      (or_else_numbered (refuse_numbered _ 11 0 (lit≤ tt, lit≤ tt) (lit≤ tt)) (numbered_more (λ k e. omega arith) (code_number t c))))

  -- ---- 10, and its case

  admission_ten : admission t c start (stores_refusal stores) ≡ some (refusal 10 0) → Accepted t × (StoresFit stores → ⊥)
  unfolding admission
  admission_ten e =
      ⊎_elim
      (λ table. absurd (not_numbered (table_number t) (λ h. omega arith) table))
      (λ rest.
      (rest.0, λ fit. not_numbered after_10 (λ h. omega arith) (sym (none_or_else (stores_refusal stores) _ (fit_unrefused stores fit)) ∙ rest.1)))
      (or_else_some (table_refusal t) _ e)

  pub ten_only_if : depot_refusal t c start stores room ≡ some (refusal 10 0) → Accepted t × (StoresFit stores → ⊥)
  ten_only_if e =
      ⊎_elim admission_ten
      (λ rest. absurd (not_numbered (refuse_numbered {P = λ k. k ≡ 16} (ltb (length room) (3 * crews stores)) 16 0 (lit≤ tt, lit≤ tt) refl) (λ h. omega arith) rest.1))
      (or_else_some (admission t c start (stores_refusal stores)) short e)

  pub ten_if : Accepted t → (StoresFit stores → ⊥) → depot_refusal t c start stores room ≡ some (refusal 10 0)
  unfolding admission ◌or_else◌
  ten_if table unfit = rw (table, unfit_refused stores unfit) refl

  -- ---- 16, and its case

  all_but_room : admission t c start (stores_refusal stores) ≡ none → AllButRoom t c start stores
  all_but_room e =
      let a = admits t c start (stores_refusal stores) e in
      record { table = a.table; stores_fit = stores_fit stores (not-false _ (refuse_none _ 10 0 a.store)); label = a.label; code = a.code }

  unrefused_before : AllButRoom t c start stores → admission t c start (stores_refusal stores) ≡ none
  unrefused_before a =
      unrefused t c start (record { table = a.table; store = fit_unrefused stores a.stores_fit; label = a.label; code = a.code })

  pub sixteen_only_if : depot_refusal t c start stores room ≡ some (refusal 16 0) → AllButRoom t c start stores × (length room < 3 * crews stores)
  sixteen_only_if e =
      ⊎_elim
      (λ before. absurd (not_numbered before_16 (λ h. omega arith) before))
      (λ rest. (all_but_room rest.0, ltb-true _ _ (refuse_some _ 16 0 rest.1)))
      (or_else_some (admission t c start (stores_refusal stores)) short e)

  pub sixteen_if : AllButRoom t c start stores → length room < 3 * crews stores → depot_refusal t c start stores room ≡ some (refusal 16 0)
  unfolding refuse
  sixteen_if a h = none_or_else _ short (unrefused_before a) ∙ rw (lt-ltb (length room) (3 * crews stores) h) refl

  -- ---- done

  pub done_only_if : depot_refusal t c start stores room ≡ none → AllButRoom t c start stores × (3 * crews stores ≤ length room)
  done_only_if e =
      let both = or_else_none (admission t c start (stores_refusal stores)) short e in
      (all_but_room both.0, ltb-false _ _ (refuse_none _ 16 0 both.1))

  pub done_if : AllButRoom t c start stores → 3 * crews stores ≤ length room → depot_refusal t c start stores room ≡ none
  unfolding refuse
  done_if a h = none_or_else _ short (unrefused_before a) ∙ rw (le-ltb (length room) (3 * crews stores) h) refl

-- ---- what the crews' runs stand on

pub crew_length : (stores : List ℤ) (i : ℕ) → i < crews stores → length (crew stores i) ≡ 32
crew_length stores i h = length-take-le 32 (drop (32 * i) stores) (rw (length-drop (32 * i) stores) (omega arith))

-- a crew's own store is a store, and all else was checked for the depot
pub ready : (t c : List ℕ) (start : ℕ) (stores : List ℤ) (room : List ℕ) → depot_refusal t c start stores room ≡ none → Ready t c start stores room
ready t c start stores room e =
    let done = done_only_if t c start stores room e in
    let all = done.0 in let fit = all.stores_fit in
    record {
      whole = omega (arith, fit.whole);
      few = omega (arith, fit.few);
      enough = done.1;
      unrefused = λ i h. not_refused t c start (crew stores i) all.table (crew_length stores i h) all.label all.code;
    }
