-- What arrays hold once the four words of a node are put behind those of the nodes that it is made of, and it stands in their place.
use mathlib.Core.Path.{◌≡◌, refl, sym, ap, ◌∙◌}
use mathlib.Core.List.{List, [], ◌∷◌, ◌++◌, append_assoc}
use Prim.Native.Nat.{ℕ, suc, ◌+◌, ◌*◌, ◌-◌, ◌<◌, ◌≤◌, max}
use native.Mathlib.Omega.{arith}
use lib.ListN.{length, get_or, take, drop, set, length-append}
use lib.Seq.{take_at, length-take-le}
use Rattle.rules.specs.Table.{Kind}
use Rattle.grammar.specs.Written.{Node, node, plain, child, kind_number, size, size_below, depth, depth_below, word_at, written, written_below}
use Rattle.tokens.specs.Flat.{Form, no_node, leaf, one, two, three, numbered, make, arity, sizes}
use Rattle.tokens.specs.Arrays.{stack}
use Rattle.tokens.proofs.ArrayLaws.{stack_length, stack_pushed}
use Rattle.rule.specs.inside.Nodes.{roots_of, depths_of, written_of, Holds, first, second, third, below, Put}
use Rattle.grammar.proofs.table.TypedTable.{size_some}

-- ---- four words

-- a row of four that is copied there comes after what stood before it
pub put_is : (l : List ℕ) (count a b c d : ℕ) → 4 * count + 4 ≤ length l
    → Put l count a b c d (take (4 * count) l ++ (a ∷ b ∷ c ∷ d ∷ drop (4 * count + 4 - 4 * count) (drop (4 * count) l)))
put_is l count a b c d h =
    let before = take (4 * count) l in
    let row = a ∷ b ∷ c ∷ d ∷ [] in
    let rest = drop (4 * count + 4 - 4 * count) (drop (4 * count) l) in
    let n : length (before ++ row) ≡ 4 * count + 4 = length-append before row ∙ ap (λ (k : ℕ). k + 4) (length-take-le (4 * count) l (omega arith)) in
    record { front = ap (take (4 * count + 4)) (sym (append_assoc before row rest)) ∙ take_at (before ++ row) rest (4 * count + 4) n }

-- ---- the nodes that arrays hold

pub length_least : (ns : List Node) → length ns ≤ sizes ns
unfolding sizes
length_least [] = omega arith
length_least (n ∷ ns) = let a = length_least ns in let b = size_some n in omega arith

length_roots : (ns : List Node) → length (roots_of ns) ≡ length ns
unfolding roots_of
length_roots [] = refl
length_roots (n ∷ ns) = ap suc (length_roots ns)

pub depth_is : {ns : List Node} {roots deep words : List ℕ} {depth count : ℕ} → Holds ns roots deep words depth count → depth ≡ length ns
depth_is {ns} {roots} {depth = depth} H = sym (stack_length roots depth) ∙ ap length H.roots_are ∙ length_roots ns

-- the last node N that arrays hold, and the nodes below it
pub record Last (N : Node) (ms : List Node) (roots deep : List ℕ) (i : ℕ) : Type 0 where
  pub root : get_or roots i 0 ≡ sizes ms + size N - 1
  pub depth_is : get_or deep i 0 ≡ depth N
  pub roots_below : stack roots i ≡ roots_of ms
  pub depths_below : stack deep i ≡ depths_of ms

pub last : {N : Node} {ms : List Node} {roots deep : List ℕ} {n i : ℕ} → stack roots n ≡ roots_of (N ∷ ms)
    → stack deep n ≡ depths_of (N ∷ ms) → n ≡ suc i → Last N ms roots deep i
unfolding stack roots_of depths_of
last r d e =
    let rs = rw e at r in
    let ds = rw e at d in
    record { root = cc; depth_is = cc; roots_below = cc; depths_below = cc }

-- ---- the words of a node, after those of the nodes that it is made of

written_leaf : (k : Kind) (x : ℕ) (ms : List Node)
    → written_of ms ++ (kind_number k ∷ x ∷ 0 ∷ 0 ∷ []) ≡ written_of (node k (plain x) (plain 0) (plain 0) ∷ ms)
unfolding written_of written written_below word_at
written_leaf k x ms = refl

written_one : (k : Kind) (A : Node) (ms : List Node)
    → written_of (A ∷ ms) ++ (kind_number k ∷ (sizes ms + size A - 1) ∷ 0 ∷ 0 ∷ []) ≡ written_of (node k (child A) (plain 0) (plain 0) ∷ ms)
unfolding written_of written written_below word_at
written_one k A ms = append_assoc (written_of ms) (written (sizes ms) A) _

written_numbered : (k : Kind) (x : ℕ) (A : Node) (ms : List Node)
    → written_of (A ∷ ms) ++ (kind_number k ∷ x ∷ (sizes ms + size A - 1) ∷ 0 ∷ []) ≡ written_of (node k (plain x) (child A) (plain 0) ∷ ms)
unfolding written_of written written_below word_at size_below
written_numbered k x A ms = let z : sizes ms + 0 ≡ sizes ms = omega arith in rw z (append_assoc (written_of ms) (written (sizes ms) A) _)

written_two : (k : Kind) (A B : Node) (ms : List Node)
    → written_of (B ∷ A ∷ ms) ++ (kind_number k ∷ (sizes ms + size A - 1) ∷ (sizes (A ∷ ms) + size B - 1) ∷ 0 ∷ [])
    ≡ written_of (node k (child A) (child B) (plain 0) ∷ ms)
unfolding written_of written written_below word_at size_below sizes
written_two k A B ms = let z : size A + sizes ms ≡ sizes ms + size A = omega arith in rw z (simp append_assoc)

written_three : (k : Kind) (A B C : Node) (ms : List Node)
    → written_of (C ∷ B ∷ A ∷ ms)
    ++ (kind_number k ∷ (sizes ms + size A - 1) ∷ (sizes (A ∷ ms) + size B - 1) ∷ (sizes (B ∷ A ∷ ms) + size C - 1) ∷ [])
    ≡ written_of (node k (child A) (child B) (child C) ∷ ms)
unfolding written_of written written_below word_at size_below sizes
written_three k A B C ms =
    let z : size A + sizes ms ≡ sizes ms + size A = omega arith in
    let y : size B + (sizes ms + size A) ≡ sizes ms + size A + size B = omega arith in
    rw (z, y) (simp append_assoc)

-- ---- a node is made

-- what arrays hold once the words of N are written, and it stands above ms
holds_next : (roots deep words words₂ : List ℕ) (base count d : ℕ) (ms : List Node) (N : Node) (own : List ℕ)
    → stack roots base ≡ roots_of ms → stack deep base ≡ depths_of ms → base < length roots → base < length deep
    → count + 1 ≡ sizes ms + size N → d ≡ depth N
    → take (4 * count + 4) words₂ ≡ take (4 * count) words ++ own → take (4 * count) words ++ own ≡ written_of (N ∷ ms)
    → Holds (N ∷ ms) (set roots base count) (set deep base d) words₂ (base + 1) (count + 1)
unfolding roots_of depths_of sizes
holds_next roots deep words words₂ base count d ms N own re de rl dl ce he fe we =
    let f4 : 4 * (count + 1) ≡ 4 * count + 4 = omega arith in
    let last : count ≡ sizes ms + size N - 1 = omega arith in
    record {
      roots_are = stack_pushed roots base count rl ∙ rw (← last, re);
      depths_are = stack_pushed deep base d dl ∙ rw (← he, de);
      words_are = rw f4 (fe ∙ we);
      count_is = omega arith;
    }

module _ (k : Kind) (x : ℕ) (roots deep words words₂ : List ℕ) (base count : ℕ) (rl : base < length roots) (dl : base < length deep) where
  abbrev a : ℕ
  a = get_or roots base 0

  abbrev b : ℕ
  b = get_or roots (base + 1) 0

  abbrev c : ℕ
  c = get_or roots (base + 2) 0

  abbrev e : ℕ
  e = get_or deep base 0

  abbrev f : ℕ
  f = get_or deep (base + 1) 0

  abbrev g : ℕ
  g = get_or deep (base + 2) 0

  abbrev Built_of : Form → List Node → Type 0
  Built_of form ns =
      Holds (make form k x ns) (set roots base count) (set deep base (below form e f g + 1)) words₂ (base + 1) (count + 1)

  abbrev Written : Form → Type 0
  Written form = Put words count (kind_number k) (first form x a) (second form a b) (third form c) words₂

  pub holds_make : (form : Form) (ns : List Node) → Holds ns roots deep words (base + arity form) count → arity form ≤ length ns
      → (form ≡ no_node → ⊥)
      → Written form → Built_of form ns
  unfolding make arity first second third below roots_of depths_of sizes size size_below depth depth_below
  holds_make no_node ns H h n P = absurd (n refl)
  holds_make leaf ns H h n P =
      let z : base + 0 ≡ base = omega arith in
      let r = rw z at H.roots_are in
      let d = rw z at H.depths_are in
      let t = H.count_is in
      holds_next roots deep words words₂ base count 1 ns (node k (plain x) (plain 0) (plain 0)) _ r d rl dl (omega arith)
      (omega arith) P.front
      (ap (λ (l : List ℕ). l ++ (kind_number k ∷ x ∷ 0 ∷ 0 ∷ [])) H.words_are ∙ written_leaf k x ns)
  holds_make one [] H h n P = absurd (omega arith)
  holds_make one (A ∷ ms) H h n P =
      let la : Last A ms roots deep base = last H.roots_are H.depths_are (omega arith) in
      let r0 = la.root in
      let d0 = la.depth_is in
      let t = H.count_is in
      holds_next roots deep words words₂ base count (e + 1) ms (node k (child A) (plain 0) (plain 0)) _ la.roots_below
      la.depths_below rl dl (omega arith) (omega arith) P.front
      (ap (λ (l : List ℕ). l ++ (kind_number k ∷ a ∷ 0 ∷ 0 ∷ [])) H.words_are ∙ rw r0 (written_one k A ms))
  holds_make two [] H h n P = absurd (omega arith)
  holds_make two (B ∷ []) H h n P = absurd (omega arith)
  holds_make two (B ∷ A ∷ ms) H h n P =
      let lb : Last B (A ∷ ms) roots deep (base + 1) = last H.roots_are H.depths_are (omega arith) in
      let la : Last A ms roots deep base = last lb.roots_below lb.depths_below (omega arith) in
      let r0 = la.root in
      let r1 = lb.root in
      let d0 = la.depth_is in
      let d1 = lb.depth_is in
      let t = H.count_is in
      holds_next roots deep words words₂ base count (max e f + 1) ms (node k (child A) (child B) (plain 0)) _ la.roots_below
      la.depths_below rl dl (omega arith) (omega arith) P.front
      (ap (λ (l : List ℕ). l ++ (kind_number k ∷ a ∷ b ∷ 0 ∷ [])) H.words_are ∙ rw (r0, r1) (written_two k A B ms))
  holds_make three [] H h n P = absurd (omega arith)
  holds_make three (C ∷ []) H h n P = absurd (omega arith)
  holds_make three (C ∷ B ∷ []) H h n P = absurd (omega arith)
  holds_make three (C ∷ B ∷ A ∷ ms) H h n P =
      let lc : Last C (B ∷ A ∷ ms) roots deep (base + 2) = last H.roots_are H.depths_are (omega arith) in
      let lb : Last B (A ∷ ms) roots deep (base + 1) = last lc.roots_below lc.depths_below (omega arith) in
      let la : Last A ms roots deep base = last lb.roots_below lb.depths_below (omega arith) in
      let r0 = la.root in
      let r1 = lb.root in
      let r2 = lc.root in
      let d0 = la.depth_is in
      let d1 = lb.depth_is in
      let d2 = lc.depth_is in
      let t = H.count_is in
      holds_next roots deep words words₂ base count (max (max e f) g + 1) ms (node k (child A) (child B) (child C)) _
      la.roots_below la.depths_below rl dl (omega arith) (omega arith) P.front
      (ap (λ (l : List ℕ). l ++ (kind_number k ∷ a ∷ b ∷ c ∷ [])) H.words_are ∙ rw (r0, r1, r2) (written_three k A B C ms))
  holds_make numbered [] H h n P = absurd (omega arith)
  holds_make numbered (A ∷ ms) H h n P =
      let la : Last A ms roots deep base = last H.roots_are H.depths_are (omega arith) in
      let r0 = la.root in
      let d0 = la.depth_is in
      let t = H.count_is in
      holds_next roots deep words words₂ base count (e + 1) ms (node k (plain x) (child A) (plain 0)) _ la.roots_below
      la.depths_below rl dl (omega arith) (omega arith) P.front
      (ap (λ (l : List ℕ). l ++ (kind_number k ∷ x ∷ a ∷ 0 ∷ [])) H.words_are ∙ rw r0 (written_numbered k x A ms))
