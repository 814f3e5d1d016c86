-- `typed` before `listing`: what the one writes of a typed rule the other lists as the rule's table.
use mathlib.Core.Path.{◌≡◌, ◌∙◌}
use mathlib.Core.List.{List}
use mathlib.Core.Option.{none}
use Prim.Native.Nat.{ℕ, ◌*◌, ◌≤◌}
use native.Mathlib.Omega.{arith}
use borrow.Author.Tests.{le-ltb}
use lib.ListN.{length}
use Rattle.rules.specs.Text.{text_of, read_refusal, words_of_text}
use Rattle.rules.specs.Table.{Accepted}
use Rattle.rules.specs.Refusal.{refuse, ◌or_else◌}
use Rattle.rules.proofs.TableLaws.{accepted_facts}
use Rattle.rules.proofs.TextLaws.{text_accepted, good_text_of, words_of_text_text_of}
use Rattle.grammar.specs.Rule.{Rule}
use Rattle.grammar.specs.Layout.{InGrammar}
use Rattle.grammar.specs.Written.{rule_node, size, table_of}
use Rattle.grammar.specs.Typed.{table_answer, accepted}
use Rattle.grammar.specs.machine.Answer.{typed_refusal, typed_words}
use Rattle.grammar.proofs.table.Answering.{answers, one_answer}
use Rattle.grammar.proofs.table.TypedRefusals.{table_length}
use Rattle.lister.specs.Listing.{line_or, listing_of, listing}
use Rattle.lister.proofs.Rooms.{reading_room}
use Rattle.typist.specs.TableText.{typed_text}
use Rattle.typist.proofs.Narrow.{table_small}

module _ {text : List ℕ} {p : Rule} (g : InGrammar text p) (passes : Accepted (table_of p)) where
  few : size (rule_node p) ≤ 1024
  few = let f = accepted_facts (table_of p) passes in omega (arith, f.whole, f.few, table_length p)

  -- nothing is refused, and the words are the table's
  read_whole : (typed_refusal text 4096 ≡ none) × (typed_words text 4096 ≡ table_of p)
  unfolding table_answer refuse ◌or_else◌
  read_whole =
      let enough : length (table_of p) ≤ 4096 = omega (arith, few, table_length p) in
      let nothing : table_answer (table_of p) 4096 ≡ none = rw (passes, le-ltb 4096 (length (table_of p)) enough) in
      one_answer text 4096 (answers text 4096) (accepted g nothing)

  -- the text of an accepted rule is the text of its table
  pub typed_text_lem : typed_text text ≡ text_of 4 (table_of p)
  unfolding typed_text line_or
  typed_text_lem = rw (read_whole.0, read_whole.1)

  -- and its listing is that table's
  pub typed_listed : listing (typed_text text) ≡ listing_of (table_of p)
  unfolding listing line_or
  typed_listed =
      let t = table_of p in
      let long : length t ≡ 4 * size (rule_node p) = table_length p in
      let read : read_refusal 4 (text_of 4 t) 4096 ≡ none =
      reading_room (text_of 4 t) ∙ text_accepted 4 (text_of 4 t) (good_text_of 4 t (size (rule_node p)) long (omega arith) few) in
      let same : words_of_text 4 (text_of 4 t) ≡ t = words_of_text_text_of 4 t (size (rule_node p)) long (omega arith) (table_small g few) in
      rw (typed_text_lem, read, same)
