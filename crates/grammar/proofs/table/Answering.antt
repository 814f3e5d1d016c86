-- The machine gives A4's answer, and there is only one: a contract may name the relation `Answers` or the functions, as it likes.
use mathlib.Core.Path.{◌≡◌, refl, sym, ap, ◌∙◌}
use Prim.Native.Nat.{ℕ}
use mathlib.Core.List.{List}
use mathlib.Core.Option.{Option, none, some}
use Rattle.rules.specs.Refusal.{refusal}
use Rattle.rules.specs.declared.Refusal.{Refusal}
use Rattle.grammar.specs.Rule.{Rule}
use Rattle.grammar.specs.Layout.{InGrammar}
use Rattle.grammar.specs.machine.Bytes.{read_text}
use Rattle.grammar.specs.Written.{table_of}
use Rattle.grammar.specs.Typed.{table_answer, told, Answers, outside, refused, accepted}
use Rattle.grammar.specs.machine.Answer.{refusal_of, words_unless, table_of_read, typed_refusal, typed_words}
use Rattle.grammar.proofs.tokens.Choices.{nothing}
use Rattle.grammar.proofs.bytes.OneReading.{in_grammar_read, read_in_grammar, one_reading, place, one_place}

module _ (text : List ℕ) (room : ℕ) where
  by_table : (r : Rule) → InGrammar text r → (o : Option Refusal)
      → table_answer (table_of r) room ≡ o → Answers text room o (words_unless o (table_of r))
  unfolding words_unless
  by_table r g none e = accepted g e
  by_table r g (some q) e = refused g e

  by_reading : (o : Option Rule) → read_text text ≡ o
      → Answers text room (refusal_of text room o) (words_unless (refusal_of text room o) (table_of_read o))
  unfolding refusal_of words_unless table_of_read
  by_reading none e = outside (λ r g. nothing (sym e ∙ in_grammar_read text g)) (place text)
  by_reading (some r) e = by_table r (read_in_grammar text e) (table_answer (table_of r) room) refl

  pub answers : Answers text room (typed_refusal text room) (typed_words text room)
  unfolding typed_refusal typed_words
  answers = by_reading (read_text text) refl

  same_table : {r s : Rule} → InGrammar text r → InGrammar text s → table_of r ≡ table_of s
  same_table g h = ap table_of (one_reading text g h)

  pub one_answer : {o p : Option Refusal} {v w : List ℕ}
      → Answers text room o v → Answers text room p w → (o ≡ p) × (v ≡ w)
  one_answer (outside n l) (outside m k) = (ap (λ (x : ℕ). some (refusal 17 (told x))) (one_place text l k), refl)
  one_answer (outside n l) (refused g e) = absurd (n _ g)
  one_answer (outside n l) (accepted g e) = absurd (n _ g)
  one_answer (refused g e) (outside n l) = absurd (n _ g)
  one_answer (refused g e) (refused h f) = let q = same_table g h in (sym e ∙ ap (λ (t : List ℕ). table_answer t room) q ∙ f, refl)
  one_answer (refused g e) (accepted h f) =
      let q = same_table g h in absurd (nothing (sym f ∙ ap (λ (t : List ℕ). table_answer t room) (sym q) ∙ e))
  one_answer (accepted g e) (outside n l) = absurd (n _ g)
  one_answer (accepted g e) (refused h f) =
      let q = same_table g h in absurd (nothing (sym e ∙ ap (λ (t : List ℕ). table_answer t room) q ∙ f))
  one_answer (accepted g e) (accepted h f) = (refl, same_table g h)
