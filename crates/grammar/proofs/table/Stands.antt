-- The written words of a node, found in a table that holds them from node `at` on.
use mathlib.Core.Path.{◌≡◌, refl, sym, ◌∙◌}
use mathlib.Core.List.{List, [], ◌∷◌, ◌++◌, append_assoc, append-nil}
use Prim.Native.Nat.{ℕ, ◌+◌, ◌*◌}
use native.Mathlib.Omega.{arith}
use lib.ListN.{length, length-append}
use lib.Seq.{get_or-append-add}
use Rattle.rules.specs.Table.{Kind, field}
use Rattle.grammar.specs.Written.{Node, node, Word, plain, child, kind_number, size, size_below, word_at, written}
use Rattle.grammar.specs.Written.{written_below}

-- the four words of node n
pub record Words (t : List ℕ) (n w p q r : ℕ) : Type 0 where
  pub is_kind : w ≡ field t n 0
  pub is_p : p ≡ field t n 1
  pub is_q : q ≡ field t n 2
  pub is_r : r ≡ field t n 3

-- from node `at` on, t holds the nodes below n, and then n
mutual
  pub data Stands (t : List ℕ) : ℕ → Node → Type 0 where
    stands : {at : ℕ} {k : Kind} {p q r : Word}
        → StandsBelow t at p → StandsBelow t (at + size_below p) q → StandsBelow t (at + size_below p + size_below q) r
        → Words t (at + size_below p + size_below q + size_below r) (kind_number k)
        (word_at at p) (word_at (at + size_below p) q) (word_at (at + size_below p + size_below q) r)
        → Stands t at (node k p q r)

  pub data StandsBelow (t : List ℕ) : ℕ → Word → Type 0 where
    nothing_below : {at w : ℕ} → StandsBelow t at (plain w)
    below : {at : ℕ} {n : Node} → Stands t at n → StandsBelow t at (child n)

mutual
  unfolding written written_below size size_below

  pub length_written : (n : Node) (at : ℕ) → length (written at n) ≡ 4 * size n
  length_written (node k p q r) at =
      let a = length_below p at in
      let b = length_below q (at + size_below p) in
      let c = length_below r (at + size_below p + size_below q) in
      simp length-append (omega arith)

  length_below : (w : Word) (at : ℕ) → length (written_below at w) ≡ 4 * size_below w
  length_below (plain w) at = refl
  length_below (child n) at = length_written n at

frame_at : (pre : List ℕ) (n k p q r : ℕ) (post : List ℕ)
    → length pre ≡ 4 * n → Words (pre ++ (k ∷ p ∷ q ∷ r ∷ post)) n k p q r
frame_at pre n k p q r post e = record {
  is_kind = rw (← e) (sym (get_or-append-add pre (k ∷ p ∷ q ∷ r ∷ post) 0 0));
  is_p = rw (← e) (sym (get_or-append-add pre (k ∷ p ∷ q ∷ r ∷ post) 1 0));
  is_q = rw (← e) (sym (get_or-append-add pre (k ∷ p ∷ q ∷ r ∷ post) 2 0));
  is_r = rw (← e) (sym (get_or-append-add pre (k ∷ p ∷ q ∷ r ∷ post) 3 0));
}

mutual
  unfolding written written_below

  pub held : {t : List ℕ} (n : Node) (at : ℕ) (pre post : List ℕ)
      → t ≡ pre ++ (written at n ++ post) → length pre ≡ 4 * at → Stands t at n
  held {t} (node k p q r) at pre post e h =
      let A : List ℕ = written_below at p in
      let B : List ℕ = written_below (at + size_below p) q in
      let C : List ℕ = written_below (at + size_below p + size_below q) r in
      let F : List ℕ = kind_number k ∷ word_at at p ∷ word_at (at + size_below p) q ∷ word_at (at + size_below p + size_below q) r ∷ [] in
      let a : length A ≡ 4 * size_below p = length_below p at in
      let b : length B ≡ 4 * size_below q = length_below q (at + size_below p) in
      let c : length C ≡ 4 * size_below r = length_below r (at + size_below p + size_below q) in
      let e₁ : t ≡ pre ++ (A ++ (B ++ (C ++ (F ++ post)))) = e ∙ simp append_assoc in
      let e₂ : t ≡ (pre ++ A) ++ (B ++ (C ++ (F ++ post))) = e₁ ∙ simp append_assoc in
      let e₃ : t ≡ (pre ++ A ++ B) ++ (C ++ (F ++ post)) = e₁ ∙ simp append_assoc in
      let e₄ : t ≡ (pre ++ A ++ B ++ C) ++ (F ++ post) = e₁ ∙ simp append_assoc in
      let la : length (pre ++ A) ≡ 4 * (at + size_below p) = simp length-append (omega arith) in
      let lb : length (pre ++ A ++ B) ≡ 4 * (at + size_below p + size_below q) = simp length-append (omega arith) in
      let lc : length (pre ++ A ++ B ++ C) ≡ 4 * (at + size_below p + size_below q + size_below r) = simp length-append (omega arith) in
      stands {k = k} (held_below p at pre (B ++ (C ++ (F ++ post))) e₁ h)
      (held_below q (at + size_below p) (pre ++ A) (C ++ (F ++ post)) e₂ la)
      (held_below r (at + size_below p + size_below q) (pre ++ A ++ B) (F ++ post) e₃ lb)
      (rw e₄ (frame_at (pre ++ A ++ B ++ C) (at + size_below p + size_below q + size_below r) _ _ _ _ post lc))

  held_below : {t : List ℕ} (w : Word) (at : ℕ) (pre post : List ℕ)
      → t ≡ pre ++ (written_below at w ++ post) → length pre ≡ 4 * at
      → StandsBelow t at w
  held_below (plain w) at pre post e h = nothing_below
  held_below (child n) at pre post e h = below (held n at pre post e h)

pub written_stands : (n : Node) → Stands (written 0 n) 0 n
written_stands n = held n 0 [] [] (sym (append-nil (written 0 n))) refl
