-- A word's fault as the code finds it, and the marks that a word and a node leave.
use mathlib.Core.Path.{◌≡◌, refl, ap, sym, ◌∙◌}
use mathlib.Core.Bool.{Bool, true, false, not, cond}
use mathlib.Core.List.{List, ◌++◌}
use Prim.Native.Nat.{ℕ, ◌<◌, ◌≤◌, min}
use native.Mathlib.Omega.{arith}
use lib.Dec.{eqb, ltb, leb, lit≤}
use borrow.Author.Tests.{eqb-true, eqb-false, ne_eqb, ltb-true, ltb-false, lt-ltb, le-ltb, le-leb, lt-leb}
use Rattle.std.specs.Prelude.{Option as Maybe, Some, None, is_some}
use Rattle.std.specs.Bool.{then_some}
use Rattle.rules.specs.Refusal.{number_of, reason_of, fine}
use Rattle.rules.specs.Table.{no_class, field, row_at, Row, Class, Slot, var, child, is_class, word_fault, node_fault, child_in, children}
use Rattle.rules.proofs.TableLaws.{Fills, NodeFits, word_most, word_fills}
use Rattle.table.specs.inside.Sets.{Marks}
use Rattle.rules.specs.declared.Reason.{Reason}
use Rattle.rules.proofs.NumberLaws.{reason_back, number_most as most_number}
use Rattle.table.specs.inside.Steps.{number_in, Placed, Walked}
use Rattle.table.proofs.MarkLaws.{bumps_append}

-- ---- reasons

pub number_most : (x : Maybe Reason) → number_in x ≤ fine
number_most None = lit≤ tt
number_most (Some r) = omega (arith, most_number r)

-- a reason that is told as a fault's number
pub told_by : {x : Maybe Reason} {r : Reason} {fault : ℕ} → x ≡ Some r → number_in x ≡ fault → reason_of fault ≡ r
told_by {r = r} e f = ap reason_of (sym f ∙ ap number_in e) ∙ reason_back r

-- a reason that is given in one case
pub number_some : (x : Maybe Reason) (b : Bool) (r : Reason) → x ≡ then_some b r → number_in x ≡ cond b (number_of r) fine
number_some x true r e = rw e
number_some x false r e = rw e

pub none_fine : (x : Maybe Reason) → is_some x ≡ false → number_in x ≡ fine
none_fine None e = refl
none_fine (Some r) e = cc

pub some_faulty : (x : Maybe Reason) → is_some x ≡ true → number_in x < fine
some_faulty None e = cc
some_faulty (Some r) e = omega (arith, most_number r)

-- ---- a word's fault

pub variable_told : (t : List ℕ) (n w : ℕ) → cond (leb 32 w) 4 fine ≡ word_fault t n var w
unfolding word_fault
variable_told t n w = by (ltb w 32) refl
  where
    by : (b : Bool) → ltb w 32 ≡ b → cond (leb 32 w) 4 fine ≡ cond (ltb w 32) fine 4
    by true e = rw (e, lt-leb 32 w (ltb-true w 32 e))
    by false e = rw (e, le-leb 32 w (ltb-false w 32 e))

module _ (t : List ℕ) (n w : ℕ) (c : Class) where
  pub fault_5 : n ≤ w → 5 ≡ word_fault t n (child c) w
  unfolding word_fault
  fault_5 l = rw (le-ltb w n l)

  pub child_told : w < n → (b : Bool) → is_class t c w ≡ not b → cond b 6 fine ≡ word_fault t n (child c) w
  unfolding word_fault
  child_told l true e = rw (lt-ltb w n l, e)
  child_told l false e = rw (lt-ltb w n l, e)

  -- a child lies below its parent
  pub child_lower : word_fault t n (child c) w ≡ fine → w < n
  child_lower e = (word_fills t n (child c) w e).below

-- a word that is right and names a child names a lower node
pub child_filled : (t : List ℕ) (n w : ℕ) (s : Slot) (c : Class) → s ≡ child c → Fills t n s w → w < n
child_filled t n w s c e f = (rw e at f).below

-- ---- a node's fault, and the marks that it leaves

module _ (t : List ℕ) (n : ℕ) (unknown : is_class t no_class n ≡ true) where
  pub node_2 : 2 ≡ node_fault t n
  unfolding node_fault
  node_2 = rw unknown

  pub unknown_walked : (m m' : Marks) → Walked t n m false m'
  unknown_walked m m' = record { right = rw (← node_2); marked = λ q. cc }

module _ (t : List ℕ) (n : ℕ) (r : Row) (read : r ≡ row_at t n) where
  pub children_read : children t n ≡ child_in r.p (field t n 1) ++ child_in r.q (field t n 2) ++ child_in r.r (field t n 3)
  unfolding children
  children_read = rw read

  pub words_filled : NodeFits t n → Fills t n r.p (field t n 1) × Fills t n r.q (field t n 2) × Fills t n r.r (field t n 3)
  words_filled f = rw read (f.p, f.q, f.r)

  module _ (known : is_class t no_class n ≡ false) where
    abbrev P : ℕ
    P = word_fault t n r.p (field t n 1)

    abbrev Q : ℕ
    Q = word_fault t n r.q (field t n 2)

    abbrev R : ℕ
    R = word_fault t n r.r (field t n 3)

    pub node_words : node_fault t n ≡ min P (min Q R)
    unfolding node_fault
    node_words = rw (known, ← read)

    -- a word that is not right has a fault below `fine`
    faulty : (b : Bool) (f : ℕ) → b ≡ eqb f fine → b ≡ false → f ≡ fine → ⊥
    faulty b f e z = eqb-false f fine (sym e ∙ z)

    wrong : (m m' : Marks) → min P (min Q R) < fine → Walked t n m false m'
    wrong m m' l = record { right = sym (ne_eqb (node_fault t n) fine (λ e. omega (arith, node_words))); marked = λ q. cc }

    module _ (a b : Bool) (m m₁ : Marks) (p : Placed t n r.p (field t n 1) m a m₁) where
      pub wrong_p : a ≡ false → Walked t n m false m₁
      wrong_p e =
          let l = word_most t n r.p (field t n 1) in
          let f : P ≡ fine → ⊥ = faulty a P p.right e in
          wrong m m₁ (omega arith)

      module _ (m₂ : Marks) (q : Placed t n r.q (field t n 2) m₁ b m₂) where
        pub wrong_q : b ≡ false → Walked t n m false m₂
        wrong_q e =
            let l = word_most t n r.q (field t n 2) in
            let f : Q ≡ fine → ⊥ = faulty b Q q.right e in
            wrong m m₂ (omega arith)

        pub walked : (c : Bool) (m₃ : Marks) → a ≡ true → b ≡ true → Placed t n r.r (field t n 3) m₂ c m₃ → Walked t n m c m₃
        unfolding children
        walked c m₃ x y z =
            let ps = child_in r.p (field t n 1) in
            let qs = child_in r.q (field t n 2) in
            let rs = child_in r.r (field t n 3) in
            let pf : P ≡ fine = eqb-true P fine (sym p.right ∙ x) in
            let qf : Q ≡ fine = eqb-true Q fine (sym q.right ∙ y) in
            let rf = word_most t n r.r (field t n 3) in
            let only-r : node_fault t n ≡ R = omega (arith, node_words) in
            record {
              right = z.right ∙ rw only-r;
              marked = λ e. z.marked e ∙ rw (q.marked y, p.marked x, ← read) (rw (bumps_append m (ps ++ qs) rs, bumps_append m ps qs));
            }
