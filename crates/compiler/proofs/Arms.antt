-- What each arm of `emit` writes: the code of its statement, from what its parts wrote.
use mathlib.Core.Path.{◌≡◌, refl, ap, sym, ◌∙◌}
use mathlib.Core.List.{List, ◌++◌, append_assoc}
use Prim.Native.Nat.{ℕ, ◌+◌, ◌*◌}
use native.Mathlib.Omega.{arith}
use lib.ListN.{length}
use Rattle.rules.specs.While.{Stm, skip, assign, seq, if, while}
use Rattle.rules.specs.Compilation.{size, compile}
use Rattle.rules.specs.CodeWords.{width, frame_of, words_of}
use Rattle.rules.proofs.CompilationLaws.{length_compile}
use Rattle.rules.proofs.CodeLaws.{length_words, words_append}
use Rattle.compiler.specs.inside.Writing.{frame, framed, Written}
use Rattle.compiler.proofs.Stores.{sets_then, three_stored, four_stored}

-- the words of a statement's code
abbrev words : Stm → ℕ → List ℕ
words s ℓ = words_of (compile s ℓ)

length_code : (s : Stm) (ℓ : ℕ) → length (words s ℓ) ≡ width * size s
length_code s ℓ = length_words (compile s ℓ) ∙ ap (λ (n : ℕ). width * n) (length_compile s ℓ)

seq_words : (s u : Stm) (ℓ : ℕ) → words (seq s u) ℓ ≡ words s ℓ ++ words u (ℓ + size s)
unfolding compile
seq_words s u ℓ = words_append (compile s ℓ) (compile u (ℓ + size s))

-- m is the label of the goto
module _ (b : ℕ) (s : Stm) (ℓ m : ℕ) (e : m ≡ ℓ + 1 + size s) where
  if_words : (u : Stm)
      → words (if b s u) ℓ ≡ frame ℓ 3 b (m + 1) ++ words s (ℓ + 1) ++ frame m 2 0 (m + 1 + size u) ++ words u (m + 1)
  unfolding compile words_of frame_of
  if_words u = rw (e, words_append) (sym (append_assoc (frame ℓ 3 b (ℓ + 1 + size s + 1) ++ words s (ℓ + 1)) _ _))

  while_words : words (while b s) ℓ ≡ frame ℓ 3 b (m + 1) ++ words s (ℓ + 1) ++ frame m 2 0 ℓ
  unfolding compile words_of frame_of
  while_words = rw (e, words_append)

module _ {start i : ℕ} where
  pub skip_written : {o : List ℕ} → Written skip start i o o i
  unfolding size compile words_of
  skip_written = record { end = omega arith; code = refl }

  pub assign_written : {x a : ℕ} {o o₁ : List ℕ} → o₁ ≡ framed o i (frame (start + i) 1 x a)
      → Written (assign x a) start i o o₁ (i + 1)
  unfolding size compile words_of frame_of
  assign_written e = record { end = refl; code = e }

  pub seq_written : {s u : Stm} {m e : ℕ} {o o₁ o₂ : List ℕ} → Written s start i o o₁ m → Written u start m o₁ o₂ e
      → Written (seq s u) start i o o₂ e
  unfolding size
  seq_written {s} {u} {m} {o = o} x y =
      let ℓ : start + m ≡ start + i + size s = omega arith in
      record {
        end = omega arith;
        code = y.code
            ∙ rw (x.code, seq_words s u (start + i), ℓ)
            (sets_then (words s (start + i)) _ o (width * i) (width * m) (omega (arith, length_code s (start + i))));
      }

  pub if_written : {b : ℕ} {s u : Stm} {m e : ℕ} {o o₁ o₂ o₃ o₄ : List ℕ}
      → Written s start (i + 1) o o₁ m
      → Written u start (m + 1) o₁ o₂ e
      → o₃ ≡ framed o₂ i (frame (start + i) 3 b (start + (m + 1)))
      → o₄ ≡ framed o₃ m (frame (start + m) 2 0 (start + e))
      → Written (if b s u) start i o o₄ e
  unfolding size
  if_written {b} {s} {u} {m} {e} {o} x y e₃ e₄ =
      let ℓ₁ : start + (i + 1) ≡ start + i + 1 = omega arith in
      let ℓ₂ : start + (m + 1) ≡ start + m + 1 = omega arith in
      let ℓ₃ : start + e ≡ start + m + 1 + size u = omega arith in
      let F : List ℕ = frame (start + i) 3 b (start + m + 1) in
      let S : List ℕ = words s (start + i + 1) in
      let G : List ℕ = frame (start + m) 2 0 (start + m + 1 + size u) in
      let U : List ℕ = words u (start + m + 1) in
      let S-long : length S ≡ width * size s = length_code s (start + i + 1) in
      record {
        end = omega arith;
        code = e₄
            ∙ rw (e₃, y.code, x.code, if_words b s (start + i) (start + m) (omega arith) u, ℓ₁, ℓ₂, ℓ₃)
            (four_stored F S G U o (width * i) (width * (i + 1)) (width * m) (width * (m + 1))
            (omega arith) (omega arith) (omega arith));
      }

  pub while_written : {b : ℕ} {s : Stm} {m : ℕ} {o o₁ o₂ o₃ : List ℕ}
      → Written s start (i + 1) o o₁ m
      → o₂ ≡ framed o₁ i (frame (start + i) 3 b (start + (m + 1)))
      → o₃ ≡ framed o₂ m (frame (start + m) 2 0 (start + i))
      → Written (while b s) start i o o₃ (m + 1)
  unfolding size
  while_written {b} {s} {m} {o} x e₂ e₃ =
      let ℓ₁ : start + (i + 1) ≡ start + i + 1 = omega arith in
      let ℓ₂ : start + (m + 1) ≡ start + m + 1 = omega arith in
      let F : List ℕ = frame (start + i) 3 b (start + m + 1) in
      let S : List ℕ = words s (start + i + 1) in
      let G : List ℕ = frame (start + m) 2 0 (start + i) in
      let S-long : length S ≡ width * size s = length_code s (start + i + 1) in
      record {
        end = omega arith;
        code = e₃
            ∙ rw (e₂, x.code, while_words b s (start + i) (start + m) (omega arith), ℓ₁, ℓ₂)
            (three_stored F S G o (width * i) (width * (i + 1)) (width * m) (omega arith) (omega arith));
      }
