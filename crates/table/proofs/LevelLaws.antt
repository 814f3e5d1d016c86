-- A level and the next: the invariant of a pass over a level's words, and the level that is the root alone.
use mathlib.Core.Logic.{◌⊎◌, inl, inr}
use mathlib.Core.Path.{◌≡◌, refl, ap, sym, ◌∙◌}
use mathlib.Core.Bool.{Bool, true, false, cond}
use mathlib.Core.List.{List}
use Prim.Native.Nat.{ℕ, zero, suc, ◌+◌, ◌*◌, ◌-◌, ◌/◌, ◌<◌, ◌≤◌, min, max}
use native.Mathlib.Omega.{arith}
use lib.Bits.{bit_and}
use lib.Dec.{eqb, leb}
use lib.ListN.{length, get_or, set, length-set, replicate, length-replicate}
use borrow.Author.Tests.{eqb-true, eqb-false, eq-eqb, le-leb, lt-leb}
use Rattle.bits.specs.Bit.{bit, with_bit}
use Rattle.bits.proofs.BitLaws.{bit_most, bit_with, no_bit, Lowest}
use Rattle.rules.specs.Table.{nodes, root, occurs, depth_at}
use Rattle.table.specs.inside.Sets.{held, put, Nodes, adds, under, Inside, Level}
use Rattle.table.specs.inside.Steps.{Sound}
use Rattle.table.proofs.SetLaws.{held_most, held_room, held_at, held_put, length_put, none_held, emptied, not_emptied}
use Rattle.table.proofs.DepthLaws.{depth_some, child_below, child_less_deep, deepest_child}
use Rattle.table.proofs.AddLaws.{adds_room, adds_held, adds_words, adds_some, parent, named_under}

-- ---- a pass over the words of a level

-- a node is held in a word whose bit of `left` is b: 1 while the word is to be passed, 0 once it is
abbrev Held : List ℕ → ℕ → ℕ → ℕ → Type 0
Held row left b k = (held row k ≡ 1) × (bit left (k / 32) ≡ b)

-- a deepest node of the level, not passed yet, or a deepest child of one that is
abbrev Deepest : List ℕ → ℕ → List ℕ → ℕ → Type 0
Deepest t h row left = ((k : ℕ) × Held row left 1 k × (depth_at t k ≡ h)) ⊎ ((k : ℕ) × Held row left 0 k × (suc (depth_at t k) ≡ h))

-- The words of `left` are to be passed, and hold nodes of the level yet; the others hold nodes of the next, and `next` tells which of
-- them are in use. The deepest of the level has depth h.
pub record Passing (t : List ℕ) (h : ℕ) (row : List ℕ) (left next : ℕ) : Type 0 where
  pub room : length row ≡ 32
  pub inside : (k : ℕ) → held row k ≡ 1 → k < nodes t
  pub old : (k : ℕ) → Held row left 1 k → depth_at t k ≤ h
  pub new : (k : ℕ) → Held row left 0 k → (depth_at t k < h) × (bit next (k / 32) ≡ 1)
  pub some : 1 < h → Deepest t h row left
  pub full : (next ≡ 0 → ⊥) → (k : ℕ) × Held row left 0 k

module _ {t row : List ℕ} {h : ℕ} where
  pub word_inside : {left next : ℕ} → Passing t h row left next → (i : ℕ) → Inside t i (get_or row i 0)
  word_inside p i j l e = p.inside (32 * i + j) (held_at row i j l ∙ e)

  pub all_passed : {next : ℕ} → Passing t h row 0 next → Level t (row, next) (h - 1)
  all_passed p = record {
    room = p.room;
    inside = p.inside;
    most = λ k e. omega (arith, (p.new k (e, no_bit (k / 32))).0);
    some = λ g. by (p.some (omega arith));
    told = λ k e. (p.new k (e, no_bit (k / 32))).1;
    full = λ ne. let w = p.full ne in (w.0, w.1.0);
  }
    where
      by : Deepest t h row 0 → (k : ℕ) × (held row k ≡ 1) × (depth_at t k ≡ h - 1)
      by (inl w) = absurd (omega (arith, w.1.1, no_bit (w.0 / 32)))
      by (inr w) = (w.0, w.1.0, omega (arith, w.2))

-- word i, the lowest that is left, is passed: its nodes give way to their children
module _ (t : List ℕ) (sound : Sound t) (h : ℕ) (row : List ℕ) (left next i : ℕ) (p : Passing t h row left next) (low : Lowest 32 left i) where
  abbrev ks : List ℕ
  ks = under t i (get_or row i 0)

  abbrev m' : Nodes
  m' = adds (set row i 0, next) ks

  abbrev left' : ℕ
  left' = bit_and left (left - 1)

  i_in : i < length row
  i_in = omega (arith, low.short, p.room)

  room' : length m'.0 ≡ 32
  room' = adds_room ks (set row i 0, next) ∙ length-set row i 0 ∙ p.room

  held' : (k : ℕ) → k / 32 < 32 → held m'.0 k ≡ max (held (set row i 0) k) (min 1 (occurs k ks))
  held' k g = adds_held ks (set row i 0, next) k (omega (arith, length-set row i 0, p.room))

  -- what is up to i is passed now
  passed : (x : ℕ) → x ≤ i → bit left' x ≡ 0
  passed x g = by (eqb x i) refl
    where
      by : (b : Bool) → eqb x i ≡ b → bit left' x ≡ 0
      by true e = ap (bit left') (eqb-true x i e) ∙ low.gone
      by false e = let ne = eqb-false x i e in low.kept x ne ∙ low.below x (omega (arith, ne))

  stays : (k : ℕ) → held row k ≡ 1 → (k / 32 ≡ i → ⊥) → held m'.0 k ≡ 1
  stays k e ne = held' k (omega (arith, held_room row k e, p.room)) ∙ omega (arith, not_emptied row i i_in k ne, e)

  -- a child of such a node
  record New (k : ℕ) : Type 0 where
    inside : k < nodes t
    less : depth_at t k < h
    low_word : k / 32 ≤ i

  new_child : (k : ℕ) → 0 < occurs k ks → New k
  new_child k c =
      let n = parent t row i k c in
      let in_table = p.inside n.node n.here in
      let below = child_below t sound n.node k in_table n.names in
      let deep = p.old n.node (n.here, ap (bit left) n.word ∙ low.set) in
      record {
        inside = omega arith;
        less = omega (arith, child_less_deep t sound n.node k in_table n.names, deep);
        low_word = omega (arith, below, n.word);
      }

  joins : (k : ℕ) → 0 < occurs k ks → Held m'.0 left' 0 k
  joins k c =
      let new = new_child k c in
      (held' k (omega (arith, new.low_word, low.short)) ∙ omega (arith, held_most (set row i 0) k, c), passed (k / 32) new.low_word)

  -- a node held now was held in another word, or is a child
  data From (k : ℕ) : Type 0 where
    before : held row k ≡ 1 → (k / 32 ≡ i → ⊥) → From k
    child : 0 < occurs k ks → From k

  from : (k : ℕ) → held m'.0 k ≡ 1 → From k
  from k e = by (occurs k ks) refl (eqb (k / 32) i) refl
    where
      now : held m'.0 k ≡ max (held (set row i 0) k) (min 1 (occurs k ks))
      now = held' k (omega (arith, held_room m'.0 k e, room'))

      by : (c : ℕ) → occurs k ks ≡ c → (b : Bool) → eqb (k / 32) i ≡ b → From k
      by (suc c) f b g = child (omega arith)
      by zero f true g = absurd (omega (arith, now, e, emptied row i i_in k (eqb-true (k / 32) i g)))
      by zero f false g =
          let ne = eqb-false (k / 32) i g in
          before (omega (arith, now, e, not_emptied row i i_in k ne)) ne

  passed_on : Passing t h m'.0 left' m'.1
  passed_on = record {
    room = room';
    inside = λ k e. in_table k (from k e);
    old = λ k e. old_depth k (from k e.0) e.1;
    new = λ k e. new_depth k (from k e.0) e.1;
    some = λ g. deepest_now g (p.some g);
    full = λ ne. some_new (adds_some ks (set row i 0, next) ne);
  }
    where
      in_table : (k : ℕ) → From k → k < nodes t
      in_table k (before e ne) = p.inside k e
      in_table k (child c) = (new_child k c).inside

      old_depth : (k : ℕ) → From k → bit left' (k / 32) ≡ 1 → depth_at t k ≤ h
      old_depth k (before e ne) f = p.old k (e, sym (low.kept (k / 32) ne) ∙ f)
      old_depth k (child c) f = absurd (omega (arith, (joins k c).1, f))

      new_depth : (k : ℕ) → From k → bit left' (k / 32) ≡ 0 → (depth_at t k < h) × (bit m'.1 (k / 32) ≡ 1)
      new_depth k (before e ne) f =
          let was = p.new k (e, sym (low.kept (k / 32) ne) ∙ f) in
          (was.0, omega (arith, adds_words ks (set row i 0, next) k, was.1, bit_most m'.1 (k / 32)))
      new_depth k (child c) f = ((new_child k c).less, omega (arith, adds_words ks (set row i 0, next) k, c, bit_most m'.1 (k / 32)))

      still_new : (k : ℕ) → Held row left 0 k → Held m'.0 left' 0 k
      still_new k e =
          let ne : k / 32 ≡ i → ⊥ = λ same. omega (arith, low.set, sym (ap (bit left) same) ∙ e.1) in
          (stays k e.0 ne, low.kept (k / 32) ne ∙ e.1)

      some_new : (next ≡ 0 → ⊥) ⊎ ((k : ℕ) × (0 < occurs k ks)) → (k : ℕ) × Held m'.0 left' 0 k
      some_new (inl ne) = let w = p.full ne in (w.0, still_new w.0 w.1)
      some_new (inr w) = (w.0, joins w.0 w.1)

      deepest_now : 1 < h → Deepest t h row left → Deepest t h m'.0 left'
      deepest_now g (inr w) = inr (w.0, still_new w.0 w.1, w.2)
      deepest_now g (inl w) = by (eqb (w.0 / 32) i) refl
        where
          by : (b : Bool) → eqb (w.0 / 32) i ≡ b → Deepest t h m'.0 left'
          by true e =
              let here = eqb-true (w.0 / 32) i e in
              let c = deepest_child t sound w.0 (p.inside w.0 w.1.0) (omega (arith, w.2)) in
              inr (c.0, joins c.0 (named_under t row i c.0 w.0 here w.1.0 c.1), c.2 ∙ w.2)
          by false e =
              let ne = eqb-false (w.0 / 32) i e in
              inl (w.0, (stays w.0 w.1.0 ne, low.kept (w.0 / 32) ne ∙ w.1.1), w.2)

  pub word_passed : (m : Nodes) → m ≡ m' → Passing t h m.0 left' m.1
  word_passed m e = rw e passed_on

-- ---- from the root down

-- the root alone
module _ (t : List ℕ) (inside : root t < nodes t) (few : nodes t ≤ 1024) where
  abbrev alone : List ℕ
  alone = put (replicate 32 0) (root t)

  alone_room : length alone ≡ 32
  alone_room = length_put (replicate 32 0) (root t) ∙ length-replicate {A = ℕ} 32 0

  only_root : (k : ℕ) → k / 32 < 32 → held alone k ≡ cond (eqb k (root t)) 1 0
  only_root k h = held_put (replicate 32 0) (root t) k (omega (arith, length-replicate {A = ℕ} 32 0)) ∙ omega (arith, none_held k (omega arith))

  root_held : held alone (root t) ≡ 1
  root_held = only_root (root t) (omega arith) ∙ rw (eq-eqb (root t) (root t) refl)

  is_root : (k : ℕ) → held alone k ≡ 1 → k ≡ root t
  is_root k e = by (eqb k (root t)) refl
    where
      by : (b : Bool) → eqb k (root t) ≡ b → k ≡ root t
      by true q = eqb-true k (root t) q
      by false q = absurd (omega (arith, rw q at (only_root k (omega (arith, held_room alone k e, alone_room))), e))

  begun : Level t (alone, with_bit 0 (root t / 32)) (depth_at t (root t))
  begun = record {
    room = alone_room;
    inside = λ k e. omega (arith, is_root k e);
    most = λ k e. omega (arith, ap (depth_at t) (is_root k e));
    some = λ g. (root t, root_held, refl);
    told = λ k e. ap (λ (x : ℕ). bit (with_bit 0 (root t / 32)) (x / 32)) (is_root k e) ∙ root_word;
    full = λ ne. (root t, root_held);
  }
    where
      root_word : bit (with_bit 0 (root t / 32)) (root t / 32) ≡ 1
      root_word = bit_with 0 (root t / 32) (root t / 32) ∙ rw (eq-eqb (root t / 32) (root t / 32) refl) (omega (arith, no_bit (root t / 32)))

  pub root_level : (row : List ℕ) (words h : ℕ) → row ≡ alone → words ≡ with_bit 0 (root t / 32) → h ≡ depth_at t (root t) → Level t (row, words) h
  root_level row words h e f g = rw (e, f, g) begun

-- no word in use, no node
pub level_none : {t row : List ℕ} {words h : ℕ} → Level t (row, words) h → words ≡ 0 → h ≡ 0
level_none {h = zero} l e = refl
level_none {h = suc h} l e =
    let w = l.some (omega arith) in
    absurd (omega (arith, l.told w.0 w.1, ap (λ (x : ℕ). bit x (w.0 / 32)) e, no_bit (w.0 / 32)))

pub level_some : {t row : List ℕ} {words h : ℕ} → Sound t → Level t (row, words) h → (words ≡ 0 → ⊥) → 0 < h
level_some {t} sound l ne =
    let w = l.full ne in
    omega (arith, l.most w.0 w.1, depth_some t sound w.0 (l.inside w.0 w.1))

-- whether a node is left when 256 levels are passed tells whether the depth is over 256
pub shallow_told : {t row : List ℕ} {words : ℕ} (depth : ℕ) → Sound t → Level t (row, words) (depth - 256) → eqb words 0 ≡ leb depth 256
shallow_told {t} {row} {words} depth sound l = by (eqb words 0) refl
  where
    by : (b : Bool) → eqb words 0 ≡ b → eqb words 0 ≡ leb depth 256
    by true e = e ∙ sym (le-leb depth 256 (omega (arith, level_none l (eqb-true words 0 e))))
    by false e = e ∙ sym (lt-leb depth 256 (omega (arith, level_some sound l (eqb-false words 0 e))))
