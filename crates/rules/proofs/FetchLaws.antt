-- Code as words (01, "Code and its steps"): what the absence of refusal 13 says of every instruction, and what is fetched at a label of
-- words whose labels rise: the one instruction that bears it, or nothing.
use mathlib.Core.Path.{◌≡◌, refl, sym, ap, ◌∙◌}
use Prim.Native.Nat.{ℕ, zero, suc, ◌-◌, ◌*◌, ◌%◌, ◌<◌, ◌≤◌}
use native.Mathlib.Nat.{eq-or-lt_of_le, le_of_suc-le-suc}
use native.Mathlib.Omega.{arith}
use mathlib.Core.Bool.{Bool, true, false, cond, ◌&&◌}
use mathlib.Core.List.{List, [], ◌∷◌, ◌++◌, Memᴰ}
use mathlib.Core.Logic.{⊎_elim}
use mathlib.Core.Option.{none, some}
use lib.Dec.{eqb, ltb, leb}
use lib.ListN.{length}
use borrow.Author.Tests.{eq-eqb, ne_eqb, lt-ltb, le-leb, lt-leb, eqb-true, eqb-false, ltb-true, leb-true, not-false}
use Rattle.rules.specs.Lists.{fetch, joined}
use Rattle.rules.specs.Goto.{Instr, ◌≔◌, goto, ifnot, ◌∈◌, Wellformed}
use Rattle.rules.specs.Table.{field, nodes, row_at, rank, Class, arithmetic, boolean, statement, no_class, is_class}
use Rattle.rules.specs.Refusal.{refusal, fine, refuse, refuse_lowest, ◌or_else◌}
use Rattle.rules.specs.CodeWords.{width, part, instructions, instr_of, instr_at, code_of}
use Rattle.rules.specs.CodeWords.{whole_code, is_node, fields_fit, rises, Rising, code_fault, code_refusal}
use Rattle.rules.proofs.ListLaws.{one_more, and_true, true_and, cond_fine, refuse_none, or_else_none}
use Rattle.rules.proofs.ListLaws.{refuse_lowest_none, none_refuse_lowest, some_refuse_lowest}
use Rattle.rules.proofs.TableLaws.{is_class_lem, class_is}
use Rattle.rules.proofs.KindLaws.{Ranges, is_arithmetic, is_boolean, is_statement, is_none, ranges}
use Rattle.rules.proofs.GotoLaws.{fetches, outside}

-- ---- what 13 asks, read as facts

pub record Node (t : List ℕ) (c : Class) (n : ℕ) : Type 0 where
  pub inside : n < nodes t
  pub class : (row_at t n).class ≡ c

-- the fields of an instruction, by its operation
pub data Fields (t : List ℕ) (o x y : ℕ) : Type 0 where
  assigns : o ≡ 1 → x < 32 → Node t arithmetic y → Fields t o x y
  jumps : o ≡ 2 → x ≡ 0 → y ≤ 65535 → Fields t o x y
  tests : o ≡ 3 → Node t boolean x → y ≤ 65535 → Fields t o x y

pub record CodeFacts (t c : List ℕ) : Type 0 where
  pub whole : width * instructions c ≡ length c
  pub few : instructions c ≤ 1024
  pub label : (k : ℕ) → k < instructions c → part c k 0 ≤ 65534
  pub fields : (k : ℕ) → k < instructions c → Fields t (part c k 1) (part c k 2) (part c k 3)
  pub rising : Rising c

module _ (t : List ℕ) where
  is_node_lem : (c : Class) (n : ℕ) → is_node t c n ≡ true → Node t c n
  unfolding is_node
  is_node_lem c n e =
      let both = and_true (ltb n (nodes t)) (is_class t c n) e in
      record { inside = ltb-true n (nodes t) both.0; class = is_class_lem t c n both.1 }

  node_is : (c : Class) (n : ℕ) → Node t c n → is_node t c n ≡ true
  unfolding is_node
  node_is c n h = true_and (ltb n (nodes t)) (is_class t c n) (lt-ltb n (nodes t) h.inside) (class_is t c n h.class)

  pub fields_of : (o x y : ℕ) → fields_fit t o x y ≡ true → Fields t o x y
  unfolding fields_fit
  fields_of o x y e = by (eqb o 1) refl (eqb o 2) refl e
    where
      by : (a : Bool) → eqb o 1 ≡ a → (b : Bool) → eqb o 2 ≡ b
          → cond a (ltb x 32 && is_node t arithmetic y) (cond b (eqb x 0 && leb y 65535) (eqb o 3 && is_node t boolean x && leb y 65535)) ≡ true
          → Fields t o x y
      by true p b q e =
          let both = and_true (ltb x 32) (is_node t arithmetic y) e in
          assigns (eqb-true o 1 p) (ltb-true x 32 both.0) (is_node_lem arithmetic y both.1)
      by false p true q e =
          let both = and_true (eqb x 0) (leb y 65535) e in
          jumps (eqb-true o 2 q) (eqb-true x 0 both.0) (leb-true y 65535 both.1)
      by false p false q e =
          let both = and_true (eqb o 3 && is_node t boolean x) (leb y 65535) e in
          let first = and_true (eqb o 3) (is_node t boolean x) both.0 in
          tests (eqb-true o 3 first.0) (is_node_lem boolean x first.1) (leb-true y 65535 both.1)

  pub of_fields : (o x y : ℕ) → Fields t o x y → fields_fit t o x y ≡ true
  unfolding fields_fit
  of_fields o x y (assigns e h n) = rw e (true_and _ _ (lt-ltb x 32 h) (node_is arithmetic y n))
  of_fields o x y (jumps e h l) = rw e (true_and _ _ (eq-eqb x 0 h) (le-leb y 65535 l))
  of_fields o x y (tests e n l) = rw e (true_and _ _ (node_is boolean x n) (le-leb y 65535 l))

-- the two classes by the kind's number
module _ (t : List ℕ) (n : ℕ) where
  by_ranges : (k : ℕ) (c : Class) → Ranges k c → (eqb (rank c) 0 ≡ (leb 1 k && leb k 8)) × (eqb (rank c) 1 ≡ (leb 16 k && leb k 22))
  by_ranges k arithmetic (is_arithmetic a b) = (rw (le-leb 1 k a, le-leb k 8 b), rw (lt-leb 16 k (omega arith)))
  by_ranges k boolean (is_boolean a b) = (rw (le-leb 1 k (omega arith), lt-leb k 8 (omega arith)), rw (le-leb 16 k a, le-leb k 22 b))
  by_ranges k statement (is_statement a b) =
      (rw (le-leb 1 k (omega arith), lt-leb k 8 (omega arith)), rw (le-leb 16 k (omega arith), lt-leb k 22 (omega arith)))
  by_ranges k no_class (is_none f g h) = (sym (between 1 8 f), sym (between 16 22 g))
    where
      between : (a b : ℕ) → (a ≤ k → b < k) → (leb a k && leb k b) ≡ false
      between a b f = go (leb a k) refl
        where
          go : (x : Bool) → leb a k ≡ x → (leb a k && leb k b) ≡ false
          go true e = rw (e, lt-leb k b (f (leb-true a k e)))
          go false e = rw e

  pub arithmetic_node : is_node t arithmetic n ≡ (ltb n (nodes t) && (leb 1 (field t n 0) && leb (field t n 0) 8))
  unfolding is_node
  arithmetic_node = ap (λ (b : Bool). ltb n (nodes t) && b) (by_ranges (field t n 0) _ (ranges (field t n 0))).0

  pub boolean_node : is_node t boolean n ≡ (ltb n (nodes t) && (leb 16 (field t n 0) && leb (field t n 0) 22))
  unfolding is_node
  boolean_node = ap (λ (b : Bool). ltb n (nodes t) && b) (by_ranges (field t n 0) _ (ranges (field t n 0))).1

-- labels that rise from each instruction to the next rise from each to every later one
rising_by_steps : (f : ℕ → ℕ) (n : ℕ) → ((k : ℕ) → suc k < n → f k < f (suc k)) → (j k : ℕ) → j < k → k < n → f j < f k
rising_by_steps f n h j zero l m = absurd (omega arith)
rising_by_steps f n h j (suc k) l m =
    ⊎_elim
    (λ (e : j ≡ k). rw e (h k m))
    (λ (g : j < k). omega (arith, rising_by_steps f n h j k g (omega arith), h k m))
    (eq-or-lt_of_le (le_of_suc-le-suc l))

-- `rises`, at the first instruction and at a later one
pub rises_first : (c : List ℕ) (k : ℕ) → k ≡ 0 → rises c k ≡ true
unfolding rises
rises_first c k e = rw e

pub rises_later : (c : List ℕ) (k : ℕ) → 0 < k → rises c k ≡ ltb (part c (k - 1) 0) (part c k 0)
unfolding rises
rises_later c zero h = absurd (omega arith)
rises_later c (suc k) h = let before : k ≡ suc k - 1 = omega arith in ap (λ (j : ℕ). ltb (part c j 0) (part c (suc k) 0)) before

module _ (t c : List ℕ) where
  -- what `code_fault` tests, and the facts behind it
  abbrev obeys : ℕ → Bool
  obeys k = leb (part c k 0) 65534 && fields_fit t (part c k 1) (part c k 2) (part c k 3) && rises c k

  record Fine (k : ℕ) : Type 0 where
    label : part c k 0 ≤ 65534
    fields : Fields t (part c k 1) (part c k 2) (part c k 3)
    rise : rises c k ≡ true

  fine_at : (k : ℕ) → code_fault t c k ≡ fine → Fine k
  unfolding code_fault
  fine_at k e =
      let all = cond_fine (obeys k) 13 (eqb-false 13 fine refl) e in
      let both = and_true (leb (part c k 0) 65534 && fields_fit t (part c k 1) (part c k 2) (part c k 3)) (rises c k) all in
      let first = and_true (leb (part c k 0) 65534) (fields_fit t (part c k 1) (part c k 2) (part c k 3)) both.0 in
      record { label = leb-true _ _ first.0; fields = fields_of t _ _ _ first.1; rise = both.1 }

  at_fine : (k : ℕ) → Fine k → code_fault t c k ≡ fine
  unfolding code_fault
  at_fine k h = rw (le-leb _ _ h.label, of_fields t _ _ _ h.fields, h.rise)

  rises_true : (k : ℕ) → rises c (suc k) ≡ true → part c k 0 < part c (suc k) 0
  unfolding rises
  rises_true k e = ltb-true _ _ e

  true_rises : Rising c → (k : ℕ) → k < instructions c → rises c k ≡ true
  unfolding rises
  true_rises r zero h = refl
  true_rises r (suc k) h = lt-ltb _ _ (r k (suc k) (omega arith) h)

  -- what code without refusal 13 is like
  pub code_facts : code_refusal t c ≡ none → CodeFacts t c
  unfolding code_refusal whole_code
  code_facts e =
      let both = or_else_none _ _ e in
      let counted = and_true (eqb (length c % width) 0) (leb (length c) (width * 1024)) (not-false _ (refuse_none _ 13 0 both.0)) in
      let divides : length c % width ≡ 0 = eqb-true _ _ counted.0 in
      let short : length c ≤ width * 1024 = leb-true _ _ counted.1 in
      let each : (k : ℕ) → k < instructions c → Fine k = λ k l. fine_at k (refuse_lowest_none (code_fault t c) (instructions c) both.1 k l) in
      record {
        whole = omega arith;
        few = omega arith;
        label = λ k l. (each k l).label;
        fields = λ k l. (each k l).fields;
        rising = rising_by_steps (λ k. part c k 0) (instructions c) (λ k l. rises_true k (each (suc k) l).rise);
      }

  pub facts_code : CodeFacts t c → code_refusal t c ≡ none
  unfolding code_refusal whole_code refuse ◌or_else◌
  facts_code f =
      let divides : length c % width ≡ 0 = omega (arith, f.whole) in
      let short : length c ≤ width * 1024 = omega (arith, f.whole, f.few) in
      rw (eq-eqb _ _ divides, le-leb _ _ short)
      (none_refuse_lowest (code_fault t c) (instructions c)
      (λ k l. at_fine k (record { label = f.label k l; fields = f.fields k l; rise = true_rises f.rising k l })))

  -- ---- the answer, from what a search finds

  pub refused_count : whole_code c ≡ false → code_refusal t c ≡ some (refusal 13 0)
  unfolding code_refusal refuse ◌or_else◌
  refused_count e = rw e

  module _ (whole : whole_code c ≡ true) where
    counted : code_refusal t c ≡ refuse_lowest (code_fault t c) (instructions c)
    unfolding code_refusal refuse ◌or_else◌
    counted = rw whole

    pub refused_at : (k : ℕ) → k < instructions c → (code_fault t c k ≡ fine → ⊥) → ((j : ℕ) → j < k → code_fault t c j ≡ fine)
        → code_refusal t c ≡ some (refusal 13 k)
    unfolding code_fault
    refused_at k h fault before =
        counted
        ∙ some_refuse_lowest (code_fault t c) (instructions c) k h fault before
        ∙ ap (λ (n : ℕ). some (refusal n k)) (else_13 (obeys k) fault)
      where
        else_13 : (b : Bool) → (cond b fine 13 ≡ fine → ⊥) → cond b fine 13 ≡ 13
        else_13 true f = absurd (f refl)
        else_13 false f = refl

    pub not_refused : ((k : ℕ) → k < instructions c → code_fault t c k ≡ fine) → code_refusal t c ≡ none
    not_refused all = counted ∙ none_refuse_lowest (code_fault t c) (instructions c) all

-- ---- the operation of an instruction, once it is read

module _ {t : List ℕ} {o x y : ℕ} where
  pub assign_fields : Fields t o x y → o ≡ 1 → (x < 32) × Node t arithmetic y
  assign_fields (assigns e h n) q = (h, n)
  assign_fields (jumps e h l) q = absurd (omega arith)
  assign_fields (tests e n l) q = absurd (omega arith)

  pub jump_fields : Fields t o x y → o ≡ 2 → (x ≡ 0) × (y ≤ 65535)
  jump_fields (assigns e h n) q = absurd (omega arith)
  jump_fields (jumps e h l) q = (h, l)
  jump_fields (tests e n l) q = absurd (omega arith)

  pub test_fields : Fields t o x y → (o ≡ 1 → ⊥) → (o ≡ 2 → ⊥) → Node t boolean x × (y ≤ 65535)
  test_fields (assigns e h n) p q = absurd (p e)
  test_fields (jumps e h l) p q = absurd (q e)
  test_fields (tests e n l) p q = (n, l)

module _ {o : ℕ} (x y : ℕ) where
  pub assign_instr : o ≡ 1 → instr_of o x y ≡ (x ≔ y)
  unfolding instr_of
  assign_instr e = rw e

  pub jump_instr : o ≡ 2 → instr_of o x y ≡ goto y
  unfolding instr_of
  jump_instr e = rw e

  pub test_instr : (o ≡ 1 → ⊥) → (o ≡ 2 → ⊥) → instr_of o x y ≡ ifnot x y
  unfolding instr_of
  test_instr p q = rw (ne_eqb o 1 p, ne_eqb o 2 q)

-- ---- what is fetched

in_row : {A : Type 0} (f : ℕ → A) (n : ℕ) (a : A) → Memᴰ a (joined (λ k. f k ∷ []) n) → (k : ℕ) × (k < n) × (a ≡ f k)
unfolding joined
in_row f zero a h = absurd (mathlib.Core.List.Memᴰ.not-nil h)
in_row f (suc n) a h =
    ⊎_elim
    (λ (m : Memᴰ a (joined (λ k. f k ∷ []) n)). let low = in_row f n a m in (low.0, omega (arith, low.1), low.2))
    (λ (m : Memᴰ a (f n ∷ [])). (n, omega arith, mathlib.Core.List.Memᴰ.eq_of_singleton m))
    (mathlib.Core.List.Memᴰ.append_cases (joined (λ k. f k ∷ []) n) h)

row_in : {A : Type 0} (f : ℕ → A) (n k : ℕ) → k < n → Memᴰ (f k) (joined (λ k. f k ∷ []) n)
unfolding joined
row_in f zero k h = absurd (omega arith)
row_in {A} f (suc n) k h =
    one_more {P = λ k. Memᴰ (f k) (joined (λ k. f k ∷ []) n ++ (f n ∷ []))} n
    (λ k l. mathlib.Core.List.Memᴰ.append_left (f n ∷ []) (row_in f n k l)) (mathlib.Core.List.Memᴰ.append_right (joined (λ k. f k ∷ []) n) (mathlib.Core.List.Memᴰ.head refl)) k h

module _ (c : List ℕ) where
  pub instr_in : (k : ℕ) → k < instructions c → (part c k 0, instr_at c k) ∈ code_of c
  unfolding code_of
  instr_in k h = row_in (λ k. (part c k 0, instr_at c k)) (instructions c) k h

  pub in_code : (ℓ : ℕ) (i : Instr) → (ℓ, i) ∈ code_of c → (k : ℕ) × (k < instructions c) × (◌≡◌ {A = ℕ × Instr} (ℓ, i) (part c k 0, instr_at c k))
  unfolding code_of
  in_code ℓ i h = in_row (λ k. (part c k 0, instr_at c k)) (instructions c) (ℓ, i) h

  -- no instruction bears ℓ
  pub fetch_nothing : (ℓ : ℕ) → ((k : ℕ) → k < instructions c → part c k 0 ≡ ℓ → ⊥) → fetch (code_of c) ℓ ≡ none
  fetch_nothing ℓ free =
      outside (code_of c) ℓ
      (λ d. let at = in_code ℓ d.0 d.1 in free at.0 at.1 (sym (ap (λ (li : ℕ × Instr). li.0) at.2)))

  module _ (rising : Rising c) where
    -- a label is borne once
    pub same_place : (j k : ℕ) → j < instructions c → k < instructions c → part c j 0 ≡ part c k 0 → j ≡ k
    same_place j k l m e =
        let not-below : j < k → ⊥ = λ h. omega (arith, rising j k h m) in
        let not_above : k < j → ⊥ = λ h. omega (arith, rising k j h l) in
        omega arith

    pub code_of_wellformed : Wellformed (code_of c)
    code_of_wellformed ℓ i j h k =
        let p = in_code ℓ i h in let q = in_code ℓ j k in
        let label : ℕ × Instr → ℕ = λ li. li.0 in let instr : ℕ × Instr → Instr = λ li. li.1 in
        let same : p.0 ≡ q.0 = same_place p.0 q.0 p.1 q.1 (sym (ap label p.2) ∙ ap label q.2) in
        ap instr p.2 ∙ ap (instr_at c) same ∙ sym (ap instr q.2)

    pub fetch_instr : (ℓ k : ℕ) → k < instructions c → part c k 0 ≡ ℓ → fetch (code_of c) ℓ ≡ some (instr_at c k)
    fetch_instr ℓ k h e = ap (fetch (code_of c)) (sym e) ∙ fetches (code_of c) code_of_wellformed (part c k 0) (instr_at c k) (instr_in k h)
