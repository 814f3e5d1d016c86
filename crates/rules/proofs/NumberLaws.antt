-- Each reason has its own number, and a number from 1 to 17 its own reason. Which of them a refusal bears: a table's 1 to 9, code's 13. So a
-- number tells what was refused.
use mathlib.Core.Path.{◌≡◌, refl}
use mathlib.Core.Bool.{Bool, true, false, cond, ◌&&◌}
use mathlib.Core.List.{List}
use mathlib.Core.Option.{Option, some}
use mathlib.Core.Logic.{⊎_elim}
use Prim.Native.Nat.{ℕ, suc, ◌-◌, ◌<◌, ◌≤◌, min}
use native.Mathlib.Omega.{arith}
use lib.Dec.{eqb, ltb, leb, lit≤}
use borrow.Author.Tests.{eqb-true, leb-true, leb-false}
use Rattle.rules.specs.Lists.{every, joined}
use Rattle.rules.specs.Refusal.{refusal, number_of, reason_of, refuse, refuse_lowest, ◌or_else◌, fine}
use Rattle.rules.specs.Table.{nodes, root, no_class, is_class, Slot, unused, any, var, child, children, occurs}
use Rattle.rules.specs.Table.{word_fault, node_fault, once_fault, table_refusal}
use Rattle.rules.specs.CodeWords.{part, instructions, fields_fit, rises, code_fault, code_refusal}
use Rattle.rules.specs.declared.Reason.{Reason}
use Rattle.rules.specs.declared.Refusal.{Refusal}
use Rattle.rules.proofs.ListLaws.{FaultAt, every_true, or_else_some, refuse_lowest_some}

pub reason_back : (r : Reason) → reason_of (number_of r) ≡ r
reason_back Reason.TableLength = refl
reason_back Reason.UnknownKind = refl
reason_back Reason.UnusedWord = refl
reason_back Reason.NoVariable = refl
reason_back Reason.ChildNotBelow = refl
reason_back Reason.ChildClass = refl
reason_back Reason.RootClass = refl
reason_back Reason.NotOnce = refl
reason_back Reason.Depth = refl
reason_back Reason.StoreLength = refl
reason_back Reason.Label = refl
reason_back Reason.CodeRoom = refl
reason_back Reason.Code = refl
reason_back Reason.Text = refl
reason_back Reason.TextRoom = refl
reason_back Reason.DepotRoom = refl
reason_back Reason.Grammar = refl

pub number_most : (r : Reason) → number_of r ≤ 17
number_most Reason.TableLength = lit≤ tt
number_most Reason.UnknownKind = lit≤ tt
number_most Reason.UnusedWord = lit≤ tt
number_most Reason.NoVariable = lit≤ tt
number_most Reason.ChildNotBelow = lit≤ tt
number_most Reason.ChildClass = lit≤ tt
number_most Reason.RootClass = lit≤ tt
number_most Reason.NotOnce = lit≤ tt
number_most Reason.Depth = lit≤ tt
number_most Reason.StoreLength = lit≤ tt
number_most Reason.Label = lit≤ tt
number_most Reason.CodeRoom = lit≤ tt
number_most Reason.Code = lit≤ tt
number_most Reason.Text = lit≤ tt
number_most Reason.TextRoom = lit≤ tt
number_most Reason.DepotRoom = lit≤ tt
number_most Reason.Grammar = lit≤ tt

abbrev pub IsNumber : ℕ → Type 0
IsNumber k = (1 ≤ k) × (k ≤ 17)

all_back : (i : ℕ) → i < 17 → eqb (number_of (reason_of (suc i))) (suc i) ≡ true
unfolding every
all_back i h = every_true (λ i. eqb (number_of (reason_of (suc i))) (suc i)) 17 refl i h

pub number_back : (k : ℕ) → IsNumber k → number_of (reason_of k) ≡ k
number_back k is =
    let back : number_of (reason_of (suc (k - 1))) ≡ suc (k - 1) = eqb-true _ _ (all_back (k - 1) (omega arith)) in
    let whole : suc (k - 1) ≡ k = omega arith in
    rw whole at back

-- a refusal that was found bears the number that was found
pub number_is : {fault : ℕ → ℕ} {n : ℕ} {r : Refusal} → FaultAt fault n r → IsNumber (fault r.place) → number_of r.reason ≡ fault r.place
number_is {fault = fault} {r = r} found is = let reason = found.reason_is in rw reason (number_back (fault r.place) is)

-- every refusal that may be given has a number of this kind
pub record Numbered (P : ℕ → Type 0) (o : Option Refusal) : Type 0 where
  pub number : (r : Refusal) → o ≡ some r → P (number_of r.reason)

module _ {P : ℕ → Type 0} where
  pub refuse_numbered : (b : Bool) (number place : ℕ) → IsNumber number → P number → Numbered P (refuse b number place)
  unfolding refuse
  refuse_numbered true number place is p =
      record { number = λ r e. let same : refusal number place ≡ r = cc in let back = number_back number is in rw (← same, back) p }
  refuse_numbered false number place is p = record { number = λ r e. let z : ◌≡◌ {A = ℕ} 0 1 = cc in absurd (omega arith) }

  lowest_numbered : (fault : ℕ → ℕ) (n : ℕ) → ((k : ℕ) → (fault k ≡ fine → ⊥) → IsNumber (fault k) × P (fault k)) → Numbered P (refuse_lowest fault n)
  lowest_numbered fault n p = record {
    number = λ r e.
        let found = refuse_lowest_some fault n r e in
        let q = p r.place found.is_fault in
        let is = number_is found q.0 in
        rw is q.1;
  }

  pub or_else_numbered : {a b : Option Refusal} → Numbered P a → Numbered P b → Numbered P (a or_else b)
  or_else_numbered {a} {b} p q = record { number = λ r e. ⊎_elim (λ h. p.number r h) (λ h. q.number r h.1) (or_else_some a b e) }

pub numbered_more : {P Q : ℕ → Type 0} {o : Option Refusal} → ((k : ℕ) → P k → Q k) → Numbered P o → Numbered Q o
numbered_more more p = record { number = λ r e. more (number_of r.reason) (p.number r e) }

-- a refusal of no such number is not given
pub not_numbered : {P : ℕ → Type 0} {o : Option Refusal} {r : Refusal} → Numbered P o → (P (number_of r.reason) → ⊥) → o ≡ some r → ⊥
not_numbered {r = r} p never e = never (p.number r e)

-- ---- the table's

-- a fault's number is at most 9
abbrev Small : ℕ → Type 0
Small k = (k ≡ fine → ⊥) → IsNumber k × (k ≤ 9)

small_fine : Small fine
small_fine h = absurd (h refl)

module _ (P : ℕ → Type 0) where
  picked : (b : Bool) (x y : ℕ) → P x → P y → P (cond b x y)
  picked true x y p q = p
  picked false x y p q = q

  lesser : (x y : ℕ) → P x → P y → P (min x y)
  lesser x y p q = go (leb x y) refl
    where
      go : (b : Bool) → leb x y ≡ b → P (min x y)
      go true e = let h : x ≤ y = leb-true x y e in let is : min x y ≡ x = omega arith in rw is p
      go false e = let h : y < x = leb-false x y e in let is : min x y ≡ y = omega arith in rw is q

word_small : (t : List ℕ) (n : ℕ) (s : Slot) (w : ℕ) → Small (word_fault t n s w)
unfolding word_fault
word_small t n unused w = picked Small (eqb w 0) fine 3 small_fine (λ h. ((lit≤ tt, lit≤ tt), lit≤ tt))
word_small t n any w = small_fine
word_small t n var w = picked Small (ltb w 32) fine 4 small_fine (λ h. ((lit≤ tt, lit≤ tt), lit≤ tt))
word_small t n (child c) w =
    picked Small (ltb w n) (cond (is_class t c w) fine 6) 5 (picked Small (is_class t c w) fine 6 small_fine (λ h. ((lit≤ tt, lit≤ tt), lit≤ tt))) (λ h. ((lit≤ tt, lit≤ tt), lit≤ tt))

node_small : (t : List ℕ) (n : ℕ) → Small (node_fault t n)
unfolding node_fault
node_small t n =
    picked Small (is_class t no_class n) 2 _ (λ h. ((lit≤ tt, lit≤ tt), lit≤ tt))
    (lesser Small _ _ (word_small t n _ _) (lesser Small _ _ (word_small t n _ _) (word_small t n _ _)))

once_small : (t : List ℕ) (k : ℕ) → Small (once_fault t k)
unfolding once_fault
once_small t k = picked Small (eqb (occurs k (joined (children t) (nodes t))) 1) fine 8 small_fine (λ h. ((lit≤ tt, lit≤ tt), lit≤ tt))

pub table_number : (t : List ℕ) → Numbered (λ k. k ≤ 9) (table_refusal t)
unfolding table_refusal
table_number t =
    or_else_numbered (refuse_numbered _ 1 0 (lit≤ tt, lit≤ tt) (lit≤ tt))
    (or_else_numbered (lowest_numbered (node_fault t) (nodes t) (node_small t))
    (or_else_numbered (refuse_numbered _ 7 (root t) (lit≤ tt, lit≤ tt) (lit≤ tt))
    (or_else_numbered (lowest_numbered (once_fault t) (root t) (once_small t)) (refuse_numbered _ 9 0 (lit≤ tt, lit≤ tt) (lit≤ tt)))))

-- ---- the code's

code_fault_number : (t c : List ℕ) (k : ℕ) → (code_fault t c k ≡ fine → ⊥) → IsNumber (code_fault t c k) × (code_fault t c k ≡ 13)
unfolding code_fault
code_fault_number t c k =
    picked (λ x. (x ≡ fine → ⊥) → IsNumber x × (x ≡ 13))
    (leb (part c k 0) 65534 && fields_fit t (part c k 1) (part c k 2) (part c k 3) && rises c k) fine 13 (λ h. absurd (h refl)) (λ h. ((lit≤ tt, lit≤ tt), refl))

pub code_number : (t c : List ℕ) → Numbered (λ k. k ≡ 13) (code_refusal t c)
unfolding code_refusal
code_number t c = or_else_numbered (refuse_numbered _ 13 0 (lit≤ tt, lit≤ tt) refl) (lowest_numbered (code_fault t c) (instructions c) (code_fault_number t c))
