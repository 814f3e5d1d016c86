-- The token that is taken: its number, and its move.
use mathlib.Core.Path.{◌≡◌, refl, sym, ap, ◌∙◌}
use mathlib.Core.Bool.{Bool, true, false, not, cond}
use mathlib.Core.List.{List}
use Prim.Native.Nat.{ℕ, zero, suc, ◌-◌, ◌<◌, ◌≤◌}
use native.Mathlib.Omega.{arith}
use lib.Dec.{eqb, ltb}
use lib.ListN.{get_or}
use borrow.Author.Tests.{ne_eqb, ltb-true, ltb-false, lt-ltb, le-ltb, not-true}
use Rattle.grammar.specs.Token.{Token, rank}
use Rattle.grammar.specs.Written.{kind_number, operator_number, relation_number}
use Rattle.tokens.specs.declared.moves.Standing.{Standing}
use Rattle.tokens.specs.Tables.{acts, numbers}
use Rattle.tokens.specs.Flat.{act, row_of, figure_number}
use Rattle.tokens.specs.Shape.{may}
use Rattle.tokens.specs.Stand.{kind_of, sign_kind, relation_kind, truth_kind, figure}
use Rattle.tokens.specs.Arrays.{standing, Located, Numbers}
use Rattle.tokens.proofs.Steps.{tokens}
use Rattle.tokens.specs.declared.Found.{Found}
use Rattle.tokens.specs.declared.moves.Place.{Place}
use Rattle.tokens.specs.Scan.{carried, Scanned}
use Rattle.tokens.specs.Promise.{WordNext}
use Rattle.tokens.specs.Quick.{Held, Quick}
use Rattle.tokens.specs.Taken.{NumberIs, Taken}
use Rattle.tokens.proofs.ArrayLaws.{located_row}
use Rattle.tokens.proofs.CodeLaws.{may_is}
use Rattle.tokens.proofs.QuickLaws.{quick_parted}

-- ---- its number

unfoldable number_of : ℕ → ℕ → ℕ
number_of kind value = cond (ltb kind 27) (get_or numbers kind 0) value

unfoldable Numbered : Token → Type 0
Numbered t = carried t < 4294967296 → figure_number (figure t) ≡ number_of (kind_of t) (carried t)

numbered : (t : Token) → Numbered t
unfolding Numbered figure figure_number kind_number operator_number relation_number number_of numbers
    kind_of carried rank sign_kind relation_kind truth_kind
numbered =
    tokens Numbered
    (λ k h. omega arith) (λ x h. refl) (λ h. refl) (λ h. refl) (λ h. refl) (λ h. refl) (λ h. refl) (λ h. refl) (λ h. refl)
    (λ h. refl)
    (λ h. refl) (λ h. refl) (λ h. refl) (λ h. refl) (λ h. refl) (λ h. refl) (λ h. refl) (λ h. refl) (λ h. refl) (λ h. refl)
    (λ h. refl)
    (λ h. refl) (λ h. refl) (λ h. refl) (λ h. refl) (λ h. refl) (λ h. refl) (λ h. refl) (λ h. refl)

number_is : {kind value : ℕ} → value < 4294967296 → NumberIs kind value (number_of kind value)
unfolding Numbered
number_is h = record { is = λ t k v. rw (k, v) at (numbered t (omega arith)) }

pub number_fixed : {l : List ℕ} → Numbers l → {kind value r : ℕ} → kind < 27 → value < 4294967296 → r ≡ get_or l kind 0
    → NumberIs kind value r
unfolding number_of
number_fixed {l} t {kind} {value} h v e =
    let q : get_or l kind 0 ≡ get_or numbers kind 0 = ap (λ (l : List ℕ). get_or l kind 0) t.is in
    rw (e, q) (rw (lt-ltb kind 27 h) at (number_is {kind = kind} {value = value} v))

pub number_carried : {kind value : ℕ} → 27 ≤ kind → value < 4294967296 → NumberIs kind value value
unfolding number_of
number_carried {kind} {value} h v = rw (le-ltb kind 27 h) at (number_is {kind = kind} {value = value} v)

-- ---- what is taken

module _ {text : List ℕ} {at : ℕ} {st : List ℕ} {s : Standing} {r : Found} {kind value end : ℕ} {p : Place} where
  pub taken_quick : Quick text at kind value end → NumberIs kind value r.number → (r.kind ≡ kind) × (r.end ≡ end) × (r.place ≡ p)
      → Located st s kind p.act p.top → (p.act ≡ 0 → ⊥) → Taken text at st s r
  taken_quick q n (k, e, w) l a =
      let z = ne_eqb p.act 0 a in
      let m : may (standing st s) kind ≡ true = sym (may_is st s _ _ _ l) ∙ ap not z in
      let t = q.token in
      record { token = rw (k, e, w) (t.0, t.1, n.is t.0 t.1 t.2, t.3 (standing st s) m, l, z) }

  pub taken_scanned : Scanned text at (standing st s) kind value end → NumberIs kind value r.number
      → (r.kind ≡ kind) × (r.end ≡ end) × (r.place ≡ p) → Located st s kind p.act p.top → Taken text at st s r
  taken_scanned q n (k, e, w) l =
      let t = q.token in
      let b = t.3 in
      let m : may (standing st s) kind ≡ true = rw (← t.1) b.allowed in
      let z : eqb p.act 0 ≡ false = not-true _ (may_is st s _ _ _ l ∙ m) in
      record { token = rw (k, e, w) (t.0, t.1, n.is t.0 t.1 t.2, b, l, z) }

-- ---- a number or a variable where a factor is wanted

-- the moves 15 and 16, also where no level is left
operand_act : (kind left : ℕ) → 27 ≤ kind → kind < 29 → kind - 12 ≡ act (row_of 4 left) kind
unfolding act acts row_of
operand_act kind left h l = by left (ltb kind 28) refl
  where
    by : (n : ℕ) (b : Bool) → ltb kind 28 ≡ b → kind - 12 ≡ act (row_of 4 n) kind
    by zero true e = let q : kind ≡ 27 = let z = ltb-true kind 28 e in omega arith in rw q
    by (suc n) true e = let q : kind ≡ 27 = let z = ltb-true kind 28 e in omega arith in rw q
    by zero false e = let q : kind ≡ 28 = let z = ltb-false kind 28 e in omega arith in rw q
    by (suc n) false e = let q : kind ≡ 28 = let z = ltb-false kind 28 e in omega arith in rw q

module _ {text : List ℕ} {at : ℕ} {st : List ℕ} {s : Standing} {r : Found} {kind value end : ℕ} where
  pub operand_taken : s.mode ≡ 4 → Held text at kind value end → 27 ≤ kind → kind < 29
      → {w : Bool} → WordNext text end w → w ≡ false → value < 4294967296
      → r.number ≡ value → (r.kind ≡ kind) × (r.end ≡ end) × (r.place ≡ record { act = kind - 12; top = s.top })
      → Taken text at st s r
  operand_taken m u g h w e v n k =
      let z : row_of 4 s.left ≡ row_of s.mode s.left = ap (λ (i : ℕ). row_of i s.left) (sym m) in
      let l : Located st s kind (kind - 12) s.top =
      located_row st s kind (kind - 12) (row_of 4 s.left) (λ q. omega arith) z (operand_act kind s.left g h) in
      taken_quick (quick_parted u w e) (rw n (number_carried g v)) k l (λ q. omega arith)
