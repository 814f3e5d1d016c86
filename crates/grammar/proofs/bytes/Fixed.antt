-- The fixed tokens, gone through one by one: where each stands in the list, that it is found by its spelling, how it begins, and that no
-- other goes on from it, but <= from <.
use mathlib.Core.Path.{◌≡◌, refl}
use mathlib.Core.Bool.{Bool, true, false, ◌&&◌, ◌||◌}
use mathlib.Core.List.{List, [], ◌∷◌, ◌++◌}
use mathlib.Core.Option.{Option, some}
use Prim.Native.Nat.{ℕ, zero, suc, ◌<◌}
use native.Mathlib.Nat.{not-suc-le-zero, le_of_suc-le-suc}
use native.Mathlib.Omega.{arith}
use lib.Dec.{eqb, lit<}
use lib.ListN.{length, get_or}
use borrow.Author.Tests.{eqb-true, eq-eqb}
use Rattle.rules.specs.Expression.{Operator, plus, minus, times, over, rest, Relation, equal, at_most, less}
use Rattle.rules.proofs.ListLaws.{and_true}
use Rattle.grammar.specs.Token.{Token, sign, relation, truth, mark, Mark}
use Rattle.grammar.specs.Token.{skip, if, then, else, end, while, does, choose, not, and}
use Rattle.grammar.specs.Token.{semicolon, becomes, comma, round, round_end, square, square_end}
use Rattle.grammar.specs.Spelling.{spell, mark_spelled, sign_spelled, relation_spelled, truth_spelled, is_digit, in_range}
use Rattle.grammar.specs.machine.Reader.{State}
use Rattle.grammar.specs.machine.Bytes.{fixed, begins, any, find, some_begins}

-- ---- beginnings

pub begins_split : (p q : List ℕ) → begins p q ≡ true → (r : List ℕ) × (q ≡ p ++ r)
unfolding begins
begins_split [] q e = (q, refl)
begins_split (a ∷ p) [] e = let z : ◌≡◌ {A = ℕ} 0 1 = cc in absurd (omega arith)
begins_split (a ∷ p) (b ∷ q) e =
    let k = and_true (eqb a b) (begins p q) e in
    let r = begins_split p q k.1 in
    let h : a ≡ b = eqb-true a b k.0 in
    let tail = r.1 in
    (r.0, cc)

pub split_begins : (p r : List ℕ) → begins p (p ++ r) ≡ true
unfolding begins
split_begins [] r = refl
split_begins (a ∷ p) r = rw (eq-eqb a a refl) (split_begins p r)

pub begins_self : (p : List ℕ) → begins p p ≡ true
unfolding begins
begins_self [] = refl
begins_self (a ∷ p) = rw (eq-eqb a a refl) (begins_self p)

pub begins_both : (p q : List ℕ) → begins p q ≡ true → begins q p ≡ true → p ≡ q
unfolding begins
begins_both [] [] e f = refl
begins_both [] (b ∷ q) e f = let z : ◌≡◌ {A = ℕ} 0 1 = cc in absurd (omega arith)
begins_both (a ∷ p) [] e f = let z : ◌≡◌ {A = ℕ} 0 1 = cc in absurd (omega arith)
begins_both (a ∷ p) (b ∷ q) e f =
    let k = and_true (eqb a b) (begins p q) e in
    let l = and_true (eqb b a) (begins q p) f in
    let h : a ≡ b = eqb-true a b k.0 in
    let t : p ≡ q = begins_both p q k.1 l.1 in
    rw (h, t)

-- ---- the list

pub data Fixed : Token → Type 0 where
  a_mark : (m : Mark) → Fixed (mark m)
  a_sign : (o : Operator) → Fixed (sign o)
  a_relation : (o : Relation) → Fixed (relation o)
  a_truth : (v : Bool) → Fixed (truth v)

pub data All : List Token → Type 0 where
  all_none : All []
  all_more : {t : Token} {ts : List Token} → Fixed t → All ts → All (t ∷ ts)

pub all_fixed : All fixed
unfolding fixed
all_fixed =
    all_more (a_mark skip) (all_more (a_mark if) (all_more (a_mark then) (all_more (a_mark else) (all_more (a_mark end)
    (all_more (a_mark while) (all_more (a_mark does) (all_more (a_mark choose) (all_more (a_mark not)
    (all_more (a_mark and) (all_more (a_mark semicolon) (all_more (a_mark becomes) (all_more (a_mark comma)
    (all_more (a_mark round) (all_more (a_mark round_end) (all_more (a_mark square) (all_more (a_mark square_end)
    (all_more (a_sign plus) (all_more (a_sign minus) (all_more (a_sign times) (all_more (a_sign over)
    (all_more (a_sign rest) (all_more (a_relation equal) (all_more (a_relation at_most) (all_more (a_relation less)
    (all_more (a_truth true) (all_more (a_truth false) all_none))))))))))))))))))))))))))

pub any_fixed : (test : Token → Bool) {l : List Token}
    → All l → any test l ≡ true → (t : Token) × Fixed t × (test t ≡ true)
unfolding any
any_fixed test all_none e = let z : ◌≡◌ {A = ℕ} 0 1 = cc in absurd (omega arith)
any_fixed test (all_more {t = t} {ts = ts} f a) e = split (test t) refl (λ h. any_fixed test a h) e
  where
    split : (b : Bool)
        → test t ≡ b → (any test ts ≡ true → (u : Token) × Fixed u × (test u ≡ true)) → (b || any test ts) ≡ true
        → (u : Token) × Fixed u × (test u ≡ true)
    split true h later e = (t, f, h)
    split false h later e = later e

pub find_fixed : (test : Token → Bool) {l : List Token}
    → All l → {t : Token} → find test l ≡ some t → Fixed t × (test t ≡ true)
unfolding find
find_fixed test all_none e = let z : ◌≡◌ {A = ℕ} 0 1 = cc in absurd (omega arith)
find_fixed test (all_more {t = t} {ts = ts} f a) {t = u} e = split (test t) refl (λ h. find_fixed test a h) e
  where
    split : (b : Bool) → test t ≡ b → (find test ts ≡ some u → Fixed u × (test u ≡ true))
        → ◌≡◌ {A = Option Token} (elim b [ true ↦ some t | false ↦ find test ts ]) (some u) → Fixed u × (test u ≡ true)
    split true h later e = let q : t ≡ u = cc in (rw q at f, rw q at h)
    split false h later e = later e

pub any_at : (test : Token → Bool) (l : List Token) (d : Token) (i : ℕ)
    → i < length l → test (get_or l i d) ≡ true → any test l ≡ true
unfolding any
any_at test [] d i h e = absurd (not-suc-le-zero h)
any_at test (t ∷ l) d zero h e = rw e
any_at test (t ∷ l) d (suc i) h e = or_right (test t) (any_at test l d i (le_of_suc-le-suc h) e)
  where
    or_right : (a : Bool) {b : Bool} → b ≡ true → (a || b) ≡ true
    or_right true e = refl
    or_right false e = e

pub placed : {t : Token} → Fixed t → (i : ℕ) × (i < length fixed) × (get_or fixed i (mark skip) ≡ t)
unfolding fixed
placed (a_mark skip) = (0, lit< tt, refl)
placed (a_mark if) = (1, lit< tt, refl)
placed (a_mark then) = (2, lit< tt, refl)
placed (a_mark else) = (3, lit< tt, refl)
placed (a_mark end) = (4, lit< tt, refl)
placed (a_mark while) = (5, lit< tt, refl)
placed (a_mark does) = (6, lit< tt, refl)
placed (a_mark choose) = (7, lit< tt, refl)
placed (a_mark not) = (8, lit< tt, refl)
placed (a_mark and) = (9, lit< tt, refl)
placed (a_mark semicolon) = (10, lit< tt, refl)
placed (a_mark becomes) = (11, lit< tt, refl)
placed (a_mark comma) = (12, lit< tt, refl)
placed (a_mark round) = (13, lit< tt, refl)
placed (a_mark round_end) = (14, lit< tt, refl)
placed (a_mark square) = (15, lit< tt, refl)
placed (a_mark square_end) = (16, lit< tt, refl)
placed (a_sign plus) = (17, lit< tt, refl)
placed (a_sign minus) = (18, lit< tt, refl)
placed (a_sign times) = (19, lit< tt, refl)
placed (a_sign over) = (20, lit< tt, refl)
placed (a_sign rest) = (21, lit< tt, refl)
placed (a_relation equal) = (22, lit< tt, refl)
placed (a_relation at_most) = (23, lit< tt, refl)
placed (a_relation less) = (24, lit< tt, refl)
placed (a_truth true) = (25, lit< tt, refl)
placed (a_truth false) = (26, lit< tt, refl)

-- a fixed token is found by its spelling
pub found : {t : Token} → Fixed t → find (λ u. begins (spell t) (spell u) && begins (spell u) (spell t)) fixed ≡ some t
unfolding find fixed begins spell mark_spelled sign_spelled relation_spelled truth_spelled
found (a_mark skip) = refl
found (a_mark if) = refl
found (a_mark then) = refl
found (a_mark else) = refl
found (a_mark end) = refl
found (a_mark while) = refl
found (a_mark does) = refl
found (a_mark choose) = refl
found (a_mark not) = refl
found (a_mark and) = refl
found (a_mark semicolon) = refl
found (a_mark becomes) = refl
found (a_mark comma) = refl
found (a_mark round) = refl
found (a_mark round_end) = refl
found (a_mark square) = refl
found (a_mark square_end) = refl
found (a_sign plus) = refl
found (a_sign minus) = refl
found (a_sign times) = refl
found (a_sign over) = refl
found (a_sign rest) = refl
found (a_relation equal) = refl
found (a_relation at_most) = refl
found (a_relation less) = refl
found (a_truth true) = refl
found (a_truth false) = refl

-- and begins neither as a number nor as a variable does
pub record Begun (t : Token) : Type 0 where
  pub first : ℕ
  pub others : List ℕ
  pub spelled : spell t ≡ first ∷ others
  pub no_digit : is_digit first ≡ false
  pub no_v : eqb first 118 ≡ false

pub begun : {t : Token} → Fixed t → Begun t
unfolding spell mark_spelled sign_spelled relation_spelled truth_spelled is_digit
begun (a_mark skip) = record { first = 115; others = 107 ∷ 105 ∷ 112 ∷ []; spelled = refl; no_digit = refl; no_v = refl }
begun (a_mark if) = record { first = 105; others = 102 ∷ []; spelled = refl; no_digit = refl; no_v = refl }
begun (a_mark then) = record { first = 116; others = 104 ∷ 101 ∷ 110 ∷ []; spelled = refl; no_digit = refl; no_v = refl }
begun (a_mark else) = record { first = 101; others = 108 ∷ 115 ∷ 101 ∷ []; spelled = refl; no_digit = refl; no_v = refl }
begun (a_mark end) = record { first = 101; others = 110 ∷ 100 ∷ []; spelled = refl; no_digit = refl; no_v = refl }
begun (a_mark while) = record { first = 119; others = 104 ∷ 105 ∷ 108 ∷ 101 ∷ []; spelled = refl; no_digit = refl; no_v = refl }
begun (a_mark does) = record { first = 100; others = 111 ∷ []; spelled = refl; no_digit = refl; no_v = refl }
begun (a_mark choose) = record { first = 99; others = 104 ∷ 111 ∷ 111 ∷ 115 ∷ 101 ∷ []; spelled = refl; no_digit = refl; no_v = refl }
begun (a_mark not) = record { first = 110; others = 111 ∷ 116 ∷ []; spelled = refl; no_digit = refl; no_v = refl }
begun (a_mark and) = record { first = 97; others = 110 ∷ 100 ∷ []; spelled = refl; no_digit = refl; no_v = refl }
begun (a_mark semicolon) = record { first = 59; others = []; spelled = refl; no_digit = refl; no_v = refl }
begun (a_mark becomes) = record { first = 58; others = 61 ∷ []; spelled = refl; no_digit = refl; no_v = refl }
begun (a_mark comma) = record { first = 44; others = []; spelled = refl; no_digit = refl; no_v = refl }
begun (a_mark round) = record { first = 40; others = []; spelled = refl; no_digit = refl; no_v = refl }
begun (a_mark round_end) = record { first = 41; others = []; spelled = refl; no_digit = refl; no_v = refl }
begun (a_mark square) = record { first = 91; others = []; spelled = refl; no_digit = refl; no_v = refl }
begun (a_mark square_end) = record { first = 93; others = []; spelled = refl; no_digit = refl; no_v = refl }
begun (a_sign plus) = record { first = 43; others = []; spelled = refl; no_digit = refl; no_v = refl }
begun (a_sign minus) = record { first = 45; others = []; spelled = refl; no_digit = refl; no_v = refl }
begun (a_sign times) = record { first = 42; others = []; spelled = refl; no_digit = refl; no_v = refl }
begun (a_sign over) = record { first = 47; others = []; spelled = refl; no_digit = refl; no_v = refl }
begun (a_sign rest) = record { first = 37; others = []; spelled = refl; no_digit = refl; no_v = refl }
begun (a_relation equal) = record { first = 61; others = []; spelled = refl; no_digit = refl; no_v = refl }
begun (a_relation at_most) = record { first = 60; others = 61 ∷ []; spelled = refl; no_digit = refl; no_v = refl }
begun (a_relation less) = record { first = 60; others = []; spelled = refl; no_digit = refl; no_v = refl }
begun (a_truth true) = record { first = 116; others = 114 ∷ 117 ∷ 101 ∷ []; spelled = refl; no_digit = refl; no_v = refl }
begun (a_truth false) = record { first = 102; others = 97 ∷ 108 ∷ 115 ∷ 101 ∷ []; spelled = refl; no_digit = refl; no_v = refl }

-- no byte goes on from it, but = from <
pub goes_no_further : {limit : ℕ} {t : Token}
    → Fixed t → (S : State limit) (b : ℕ) → (t ≡ relation less → eqb b 61 ≡ false)
    → some_begins S (spell t ++ (b ∷ [])) ≡ false
unfolding some_begins any fixed begins spell mark_spelled sign_spelled relation_spelled truth_spelled
goes_no_further (a_mark skip) S b h = refl
goes_no_further (a_mark if) S b h = refl
goes_no_further (a_mark then) S b h = refl
goes_no_further (a_mark else) S b h = refl
goes_no_further (a_mark end) S b h = refl
goes_no_further (a_mark while) S b h = refl
goes_no_further (a_mark does) S b h = refl
goes_no_further (a_mark choose) S b h = refl
goes_no_further (a_mark not) S b h = refl
goes_no_further (a_mark and) S b h = refl
goes_no_further (a_mark semicolon) S b h = refl
goes_no_further (a_mark becomes) S b h = refl
goes_no_further (a_mark comma) S b h = refl
goes_no_further (a_mark round) S b h = refl
goes_no_further (a_mark round_end) S b h = refl
goes_no_further (a_mark square) S b h = refl
goes_no_further (a_mark square_end) S b h = refl
goes_no_further (a_sign plus) S b h = refl
goes_no_further (a_sign minus) S b h = refl
goes_no_further (a_sign times) S b h = refl
goes_no_further (a_sign over) S b h = refl
goes_no_further (a_sign rest) S b h = refl
goes_no_further (a_relation equal) S b h = refl
goes_no_further (a_relation at_most) S b h = refl
goes_no_further (a_relation less) S b h = rw (h refl)
goes_no_further (a_truth true) S b h = refl
goes_no_further (a_truth false) S b h = refl

pub fixed_in_range : {t : Token} → Fixed t → in_range t ≡ true
unfolding in_range
fixed_in_range (a_mark m) = refl
fixed_in_range (a_sign o) = refl
fixed_in_range (a_relation o) = refl
fixed_in_range (a_truth v) = refl
