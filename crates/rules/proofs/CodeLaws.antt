-- Code and its words. Reading the words of a piece of code gives the code back, and the words of a compiled statement of an accepted
-- table are code without refusal 13.
use mathlib.Core.Path.{◌≡◌, refl, ap, sym, ◌∙◌}
use mathlib.Core.Bool.{true, not}
use mathlib.Core.List.{List, [], ◌∷◌, ◌++◌, append_assoc}
use mathlib.Core.Option.{none}
use Prim.Native.Nat.{ℕ, zero, suc, ◌+◌, ◌*◌, ◌%◌, ◌<◌, ◌≤◌}
use native.Mathlib.Nat.{zero-add}
use native.Mathlib.Omega.{arith}
use lib.Dec.{leb, lit<}
use lib.ListN.{length, get_or, length-append, get_or-append}
use lib.Seq.{get_or-append-add, take_all}
use borrow.Author.Tests.{eq-eqb, lt-ltb, le-leb}
use Rattle.rules.specs.While.{Stm}
use Rattle.rules.specs.Goto.{Instr, ◌≔◌, goto, ifnot, Code}
use Rattle.rules.specs.Compilation.{size, compile}
use Rattle.rules.specs.CodeWords.{width, part, instructions, instr_of, code_of, frame_of, words_of}
use Rattle.rules.specs.CodeWords.{whole_code, is_node, fields_fit, rises, code_fault, code_refusal}
use Rattle.rules.specs.Refusal.{fine, refuse}
use Rattle.rules.specs.Table.{nodes, root, kind_at, row_of, Class, arithmetic, boolean, tree_by, tree_at, stm_of, program}
use Rattle.rules.specs.Table.{Kind, number, variable, choose, negation, both, skip, assign, sequence, if, while, unknown, binary, truth, compare}
use Rattle.rules.proofs.ListLaws.{joined_same, joined_elements, none_or_else, none_refuse_lowest}
use Rattle.rules.proofs.TableLaws.{Child, NodeAs, node_as, class_is, Facts}
use Rattle.rules.proofs.Bound.{few_at}
use Rattle.rules.proofs.CompilationLaws.{From, compile_from, length_compile}

pub length_frame : (ℓ : ℕ) (i : Instr) → length (frame_of ℓ i) ≡ width
unfolding frame_of
length_frame ℓ (x ≔ a) = refl
length_frame ℓ (goto m) = refl
length_frame ℓ (ifnot b m) = refl

pub length_words : (c : Code) → length (words_of c) ≡ width * length c
unfolding words_of
length_words [] = refl
length_words (li ∷ c) =
    length-append (frame_of li.0 li.1) (words_of c) ∙ omega (arith, length_frame li.0 li.1, length_words c)

pub words_append : (c d : Code) → words_of (c ++ d) ≡ words_of c ++ words_of d
unfolding words_of
words_append [] d = refl
words_append (li ∷ c) d = rw (words_append c d) (sym (append_assoc (frame_of li.0 li.1) (words_of c) (words_of d)))

-- instruction k of a piece of code; past its end, which never matters, a goto
abbrev pub instruction : Code → ℕ → ℕ × Instr
instruction c k = get_or c k (0, goto 0)

pub part_of_words : (c : Code) (k i : ℕ) → k < length c → i < width
    → part (words_of c) k i ≡ get_or (frame_of (instruction c k).0 (instruction c k).1) i 0
unfolding words_of
part_of_words [] k i h l = absurd (omega arith)
part_of_words (li ∷ c) zero i h l =
    ap (λ (j : ℕ). get_or (frame_of li.0 li.1 ++ words_of c) j 0) (omega arith)
    ∙ get_or-append (frame_of li.0 li.1) (words_of c) 0 i (omega (arith, length_frame li.0 li.1))
part_of_words (li ∷ c) (suc k) i h l =
    ap (λ (j : ℕ). get_or (frame_of li.0 li.1 ++ words_of c) j 0) (omega (arith, length_frame li.0 li.1))
    ∙ get_or-append-add (frame_of li.0 li.1) (words_of c) (width * k + i) 0
    ∙ part_of_words c k i (omega arith) l

pub instructions_of_words : (c : Code) → instructions (words_of c) ≡ length c
instructions_of_words c = omega (arith, length_words c)

-- the labelled instruction that four words mean
abbrev meant : ℕ → ℕ → ℕ → ℕ → ℕ × Instr
meant ℓ o x y = (ℓ, instr_of o x y)

frame_meant : (ℓ : ℕ) (i : Instr) → let w : ℕ → ℕ = λ k. get_or (frame_of ℓ i) k 0 in meant (w 0) (w 1) (w 2) (w 3) ≡ (ℓ, i)
unfolding frame_of instr_of
frame_meant ℓ (x ≔ a) = refl
frame_meant ℓ (goto m) = refl
frame_meant ℓ (ifnot b m) = refl

words_meant : (c : Code) (k : ℕ) → k < length c → let w : ℕ → ℕ = part (words_of c) k in meant (w 0) (w 1) (w 2) (w 3) ≡ instruction c k
words_meant c k h =
    rw (part_of_words c k 0 h (lit< tt), part_of_words c k 1 h (lit< tt), part_of_words c k 2 h (lit< tt))
    (rw (part_of_words c k 3 h (lit< tt)) (frame_meant (instruction c k).0 (instruction c k).1))

pub code_of_words : (c : Code) → code_of (words_of c) ≡ c
unfolding code_of
code_of_words c =
    rw (instructions_of_words c)
    (joined_same _ (λ k. instruction c (0 + k) ∷ []) (length c)
    (λ k h. ap (λ (li : ℕ × Instr). li ∷ []) (words_meant c k h ∙ ap (instruction c) (sym (zero-add k))))
    ∙ joined_elements c (0, goto 0) 0 (length c) (omega arith)
    ∙ take_all (length c) c (omega arith))

-- ---- code without refusal 13

-- what refusal 13 asks of the fields of an instruction
pub data Fit (t : List ℕ) : Instr → Type 0 where
  fit_assign : {x a : ℕ} → x < 32 → is_node t arithmetic a ≡ true → Fit t (x ≔ a)
  fit_goto : {m : ℕ} → m ≤ 65535 → Fit t (goto m)
  fit_ifnot : {b m : ℕ} → is_node t boolean b ≡ true → m ≤ 65535 → Fit t (ifnot b m)

pub data AllFit (t : List ℕ) : Code → Type 0 where
  no_more : AllFit t []
  one_more : {li : ℕ × Instr} {c : Code} → Fit t li.1 → AllFit t c → AllFit t (li ∷ c)

append_fit : {t : List ℕ} {c d : Code} → AllFit t c → AllFit t d → AllFit t (c ++ d)
append_fit no_more g = g
append_fit (one_more i f) g = one_more i (append_fit f g)

instruction_fits : {t : List ℕ} {c : Code} → AllFit t c → (k : ℕ) → k < length c → Fit t (instruction c k).1
instruction_fits no_more k h = absurd (omega arith)
instruction_fits (one_more i f) zero h = i
instruction_fits (one_more i f) (suc k) h = instruction_fits f k (omega arith)

from_at : (ℓ : ℕ) (c : Code) → From ℓ c → (k : ℕ) → k < length c → (instruction c k).0 ≡ ℓ + k
unfolding From
from_at ℓ [] f k h = absurd (omega arith)
from_at ℓ (li ∷ c) f zero h = omega (arith, f.0)
from_at ℓ (li ∷ c) f (suc k) h = from_at (ℓ + 1) c f.1 k (omega arith) ∙ omega arith

module _ (t : List ℕ) where
  fields_fit_lem : (ℓ : ℕ) {i : Instr} → Fit t i → let w : ℕ → ℕ = λ k. get_or (frame_of ℓ i) k 0 in fields_fit t (w 1) (w 2) (w 3) ≡ true
  unfolding fields_fit frame_of
  fields_fit_lem ℓ (fit_assign {x} h n) = rw (lt-ltb x 32 h, n)
  fields_fit_lem ℓ (fit_goto {m} h) = rw (le-leb m 65535 h)
  fields_fit_lem ℓ (fit_ifnot {b} {m} n h) = rw (n, le-leb m 65535 h)

  frame_label : (ℓ : ℕ) (i : Instr) → get_or (frame_of ℓ i) 0 0 ≡ ℓ
  unfolding frame_of
  frame_label ℓ (x ≔ a) = refl
  frame_label ℓ (goto m) = refl
  frame_label ℓ (ifnot b m) = refl

  whole_code_lem : (ws : List ℕ) (n : ℕ) → length ws ≡ width * n → n ≤ 1024 → whole_code ws ≡ true
  unfolding whole_code
  whole_code_lem ws n e few = rw (eq-eqb (length ws % width) 0 (omega arith), le-leb (length ws) (width * 1024) (omega arith))

  module _ (ℓ : ℕ) (c : Code) (f : From ℓ c) (labels : ℓ + length c ≤ 65535) (fit : AllFit t c) where
    label_at : (k : ℕ) → k < length c → part (words_of c) k 0 ≡ ℓ + k
    label_at k h = part_of_words c k 0 h (lit< tt) ∙ frame_label (instruction c k).0 (instruction c k).1 ∙ from_at ℓ c f k h

    label_rises : (k : ℕ) → k < length c → rises (words_of c) k ≡ true
    unfolding rises
    label_rises zero h = refl
    label_rises (suc k) h = rw (label_at k (omega arith), label_at (suc k) h) (lt-ltb (ℓ + k) (ℓ + suc k) (omega arith))

    no_fault : (k : ℕ) → k < length c → code_fault t (words_of c) k ≡ fine
    unfolding code_fault
    no_fault k h =
        let w : ℕ → ℕ = part (words_of c) k in
        let fields : fields_fit t (w 1) (w 2) (w 3) ≡ true =
        rw (part_of_words c k 1 h (lit< tt), part_of_words c k 2 h (lit< tt), part_of_words c k 3 h (lit< tt))
        (fields_fit_lem (instruction c k).0 (instruction_fits fit k h)) in
        let label : leb (w 0) 65534 ≡ true = rw (label_at k h) (le-leb (ℓ + k) 65534 (omega arith)) in
        rw (label, fields, label_rises k h)

    -- code whose labels go up by one, whose instructions fit and whose end label does too
    pub words_accepted : length c ≤ 1024 → code_refusal t (words_of c) ≡ none
    unfolding code_refusal refuse
    words_accepted few =
        none_or_else (refuse (not (whole_code (words_of c))) 13 0) _ (rw (whole_code_lem (words_of c) (length c) (length_words c) few))
        ∙ none_refuse_lowest (code_fault t (words_of c)) _ (λ k h. no_fault k (omega (arith, instructions_of_words c)))

-- ---- compiled code is accepted

-- a statement assigns to variables below 32 and names expression nodes of the right class
unfoldable pub Named : List ℕ → Stm → Type 0
Named t Stm.skip = Unit {0}
Named t (Stm.assign x a) = (x < 32) × (is_node t arithmetic a ≡ true)
Named t (Stm.seq s₀ s₁) = Named t s₀ × Named t s₁
Named t (Stm.if b sₜ s) = (is_node t boolean b ≡ true) × Named t sₜ × Named t s
Named t (Stm.while b sₜ) = (is_node t boolean b ≡ true) × Named t sₜ

module _ (t : List ℕ) where
  pub compile_fits : (s : Stm) (ℓ : ℕ) → Named t s → ℓ + size s ≤ 65535 → AllFit t (compile s ℓ)
  unfolding Named compile size
  compile_fits Stm.skip ℓ n h = no_more
  compile_fits (Stm.assign x a) ℓ n h = one_more (fit_assign n.0 n.1) no_more
  compile_fits (Stm.seq s₀ s₁) ℓ n h =
      append_fit (compile_fits s₀ ℓ n.0 (omega arith)) (compile_fits s₁ (ℓ + size s₀) n.1 (omega arith))
  compile_fits (Stm.if b sₜ s) ℓ n h =
      let m : ℕ = ℓ + 1 + size sₜ in
      one_more (fit_ifnot {m = m + 1} n.0 (omega arith))
      (append_fit (compile_fits sₜ (ℓ + 1) n.1 (omega arith))
      (one_more (fit_goto {m = m + 1 + size s} (omega arith)) (compile_fits s (m + 1) n.2 (omega arith))))
  compile_fits (Stm.while b sₜ) ℓ n h =
      one_more (fit_ifnot {m = ℓ + 1 + size sₜ + 1} n.0 (omega arith))
      (append_fit (compile_fits sₜ (ℓ + 1) n.1 (omega arith)) (one_more (fit_goto {m = ℓ} (omega arith)) no_more))

  node_of : {n w : ℕ} {c : Class} → n < nodes t → Child t n c w → is_node t c w ≡ true
  unfolding is_node
  node_of {n} {w} {c} h ch = rw (lt-ltb w (nodes t) (let l : w < n = ch.below in omega arith), class_is t c w ch.class)

  module _ (f : Facts t) where
    named_as : (n : ℕ) (k : Kind) (p q r : ℕ) → n < nodes t → NodeAs t n k p q r
        → ((c : ℕ) → c < n → Named t (stm_of (tree_at t c))) → Named t (stm_of (tree_at t n))
    unfolding Named tree_by row_of
    named_as n number p q r h v s = rw v.tree tt
    named_as n variable p q r h v s = rw v.tree tt
    named_as n (binary o) p q r h v s = rw v.tree tt
    named_as n choose p q r h v s = rw v.tree tt
    named_as n (truth b) p q r h v s = rw v.tree tt
    named_as n (compare o) p q r h v s = rw v.tree tt
    named_as n negation p q r h v s = rw v.tree tt
    named_as n both p q r h v s = rw v.tree tt
    named_as n skip p q r h v s = rw v.tree tt
    named_as n assign p q r h v s = rw v.tree (v.first, node_of h v.second)
    named_as n sequence p q r h v s = rw v.tree (s p v.first.below, s q v.second.below)
    named_as n if p q r h v s = rw v.tree (node_of h v.first, s q v.second.below, s r v.third.below)
    named_as n while p q r h v s = rw v.tree (node_of h v.first, s q v.second.below)
    named_as n unknown p q r h v s = rw v.tree tt

    named_below : (m n : ℕ) → n < m → n < nodes t → Named t (stm_of (tree_at t n))
    named_below zero n l h = absurd (omega arith)
    named_below (suc m) n l h =
        named_as n (kind_at t n) _ _ _ h (node_as (f.node n h) (kind_at t n) refl) (λ c a. named_below m c (omega arith) (omega arith))

    -- the code of any node's statement is accepted, as far as its labels go
    pub node_code_accepted : (n ℓ : ℕ) → n < nodes t → ℓ + size (stm_of (tree_at t n)) ≤ 65535
        → code_refusal t (words_of (compile (stm_of (tree_at t n)) ℓ)) ≡ none
    node_code_accepted n ℓ h labels =
        let s : Stm = stm_of (tree_at t n) in
        words_accepted t ℓ (compile s ℓ) (compile_from s ℓ) (omega (arith, length_compile s ℓ))
        (compile_fits s ℓ (named_below (suc n) n (omega arith) h) labels)
        (omega (arith, length_compile s ℓ, few_at t f n h, f.few))

    pub compiled_accepted : (ℓ : ℕ) → ℓ + size (program t) ≤ 65535 → code_refusal t (words_of (compile (program t) ℓ)) ≡ none
    unfolding program
    compiled_accepted ℓ h = let some : 0 < nodes t = f.some_nodes in node_code_accepted (root t) ℓ (omega arith) h
