-- How the calls of a listing end: what has been written, compiled or read, given the answer and the contract of the call.
use mathlib.Core.Path.{◌≡◌, refl, sym, ap, ◌∙◌}
use mathlib.Core.List.{List, [], ◌∷◌}
use mathlib.Core.Option.{none, some}
use Prim.Native.Nat.{ℕ, ◌+◌, ◌*◌, ◌/◌, ◌<◌, ◌≤◌}
use native.Mathlib.Nat.{mul-div_cancel_left, le_refl}
use native.Mathlib.Omega.{arith}
use lib.ListN.{length, take}
use lib.Seq.{sets, length-sets, length-take-le, take-length}
use Rattle.rules.specs.Compilation.{size, compile}
use Rattle.rules.specs.CodeWords.{width, words_of}
use Rattle.rules.specs.Table.{program}
use Rattle.rules.specs.Text.{line_length, text_of, words_of_text, read_refusal}
use Rattle.rules.specs.Answer.{ended, Answer}
use Rattle.rules.specs.Refusal.{number_of}
use Rattle.rules.specs.declared.Refusal.{Refusal}
use Rattle.rules.specs.declared.Made.{Made}
use Rattle.rules.proofs.EndedLaws.{answer_is, after_is, was_unrefused, was_refused}
use Rattle.rules.proofs.ListLaws.{take_sets}
use Rattle.rules.proofs.TextLaws.{length_text_of, length_words_of_text}
use Rattle.rules.proofs.CodeLaws.{length_words}
use Rattle.rules.proofs.CompilationLaws.{length_compile}
use Rattle.compiler.specs.Compiling.{compile_refusal, made, done, compiling}
use Rattle.compiler.proofs.Promise.{done_unrefused, refused_exactly}
use Rattle.reading.specs.Reading.{reading}
use Rattle.writing.specs.Writing.{writing}
use Rattle.writing.proofs.Endings.{write_done}
use Rattle.reading.proofs.HasRead.{has_read}
use Rattle.lister.specs.Listing.{refusal_line, line_or, listing_of, listing, Frames, Listed}
use Rattle.lister.proofs.Rooms.{compiling_room}
use Rattle.std.specs.Prelude.{Ok, Err}

-- ---- writing

-- k lines of w words, with room for them
pub text_listed : (w k : ℕ) (ws room after : List ℕ) (x : Answer ℕ) → 0 < w → length ws ≡ w * k → k ≤ 1024 → line_length w * k ≤ length room
    → ended x after ≡ writing w ws room → Listed (text_of w ws) room after (line_length w * k)
text_listed w k ws room after x p e few enough wrote =
    let frames : length ws / w ≡ k = rw e (mul-div_cancel_left k p) in
    let is = write_done w ws room (rw frames few) (rw (frames, e) (le_refl _)) (rw frames enough) in
    let left : after ≡ sets room 0 (text_of w ws) = after_is (wrote ∙ sym is) in
    record { count = sym (length_text_of w ws k e p); left = left; within = rw (left, length-sets room 0 (text_of w ws)) enough }

-- the first k instructions of a row of words, of which the width of code and that of `write_text`, four words a line, are taken as one
pub code_listed : (j k : ℕ) (ws room after : List ℕ) (x : Answer ℕ) → j ≡ width * k → width * k ≤ length ws → k ≤ 1024 → length room ≡ 33792
    → ended x after ≡ writing 4 (take j ws) room → Listed (text_of width (take (width * k) ws)) room after (line_length width * k)
code_listed j k ws room after x e inside few long wrote =
    text_listed width k (take (width * k) ws) room after x (omega arith) (length-take-le (width * k) ws inside) few (omega arith)
    (rw e at wrote)

-- whole frames have room, and are as many words as so many instructions
pub frames_listed : (ws room after : List ℕ) (x : Answer ℕ) → Frames ws → length room ≡ 33792 → ended x after ≡ writing 4 ws room
    → Listed (text_of 4 ws) room after (33 * (length ws / 4))
frames_listed ws room after x f long wrote =
    let lines : length ws / 4 ≡ f.frames = rw f.whole (mul-div_cancel_left f.frames (omega arith)) in
    let all = take-length ws in
    let listed = code_listed (length ws) f.frames ws room after x f.whole (omega (arith, f.whole)) f.few long (rw all wrote) in
    rw lines (rw (← f.whole, all) at listed)

-- of a refusal whatever its number
pub line_listed : (number place : ℕ) (room after : List ℕ) (x : Answer ℕ) → 17 ≤ length room
    → ended x after ≡ writing 2 (number ∷ place ∷ []) room → Listed (text_of 2 (number ∷ place ∷ [])) room after 17
line_listed number place room after x enough wrote =
    text_listed 2 1 (number ∷ place ∷ []) room after x (omega arith) refl (omega arith) enough wrote

-- by the number that was told
pub number_told : {told number : ℕ} (place : ℕ) {r : ℕ} {out out' : List ℕ} → told ≡ number
    → Listed (text_of 2 (told ∷ place ∷ [])) out out' r → Listed (text_of 2 (number ∷ place ∷ [])) out out' r
number_told place is listed = rw is at listed

pub refusal_listed : (q : Refusal) {told r : ℕ} {out out' : List ℕ} → told ≡ number_of q.reason
    → Listed (text_of 2 (told ∷ q.place ∷ [])) out out' r → Listed (refusal_line q) out out' r
unfolding refusal_line
refusal_listed q is listed = number_told q.place is listed

-- ---- compiling

-- the table's code, from label `start` on, stands at the front of the room
pub record HasCompiled (t : List ℕ) (start n : ℕ) (after : List ℕ) : Type 0 where
  pub few : n ≤ 1024
  pub front : take (width * n) after ≡ words_of (compile (program t) start)
  pub not_refused : compile_refusal t start (width * 1024) ≡ none

module _ (t room after : List ℕ) (start : ℕ) (long : length room ≡ width * 1024) where
  has_compiled : (m : Made) → ended (Ok m) after ≡ compiling t start room → HasCompiled t start m.instructions after
  unfolding compiling done
  has_compiled m e =
      let is = was_unrefused (compile_refusal t start (length room)) room (done t start room) refl e in
      let enough : width * size (program t) ≤ length room = (done_unrefused t start room m after e).enough in
      let same : Ok m ≡ Ok (made (size (program t)) (start + size (program t))) = answer_is is.1 in
      let made_is : m ≡ made (size (program t)) (start + size (program t)) = cc in
      let count : m.instructions ≡ size (program t) = ap (λ (x : Made). x.instructions) made_is in
      let ws = words_of (compile (program t) start) in
      let words : length ws ≡ width * m.instructions =
      length_words (compile (program t) start) ∙ rw (length_compile (program t) start, count) refl in
      record {
        few = omega (arith, long, count, enough);
        front = rw (← words, after_is is.1) (take_sets ws room (omega (arith, words, count, enough)));
        not_refused = rw long at is.0;
      }

  not_compiled : (r : Refusal) → ended (Err r) after ≡ compiling t start room → compile_refusal t start (width * 1024) ≡ some r
  not_compiled r e = rw long at (refused_exactly t start room r after e).0

-- ---- reading

-- the table's words stand at the front of the room
pub record Table (b : List ℕ) (n : ℕ) (after : List ℕ) : Type 0 where
  pub few : n ≤ 4096
  pub front : take n after ≡ words_of_text 4 b
  pub not_refused : read_refusal 4 b 4096 ≡ none

module _ (b room after : List ℕ) (long : length room ≡ 4096) where
  table_read : (n : ℕ) → ended (Ok n) after ≡ reading 4 b room → Table b n after
  unfolding reading
  table_read n e =
      let has = has_read 4 b room n after e in
      let words = length_words_of_text 4 b (omega arith) has.good in
      record {
        few = omega (arith, has.amount, has.enough, long);
        front = rw (has.amount, ← words, has.left) (take_sets (words_of_text 4 b) room (rw words has.enough));
        not_refused = rw long at (was_unrefused (read_refusal 4 b (length room)) room _ refl e).0;
      }

  not_read : (r : Refusal) → ended (Err r) after ≡ reading 4 b room → read_refusal 4 b 4096 ≡ some r
  unfolding reading
  not_read r e = rw long at (was_refused (read_refusal 4 b (length room)) room _ refl e).0

-- ---- the listing of a table, by what `compile` answered

-- from any start label: whether it is refused does not hang on it, the code does
module _ (start : ℕ) (t code after : List ℕ) (x : Answer Made) (long : length code ≡ width * 1024)
    (call : ended x after ≡ compiling t start code) where
  pub compiled : (m : Made) → x ≡ Ok m → HasCompiled t start m.instructions after
  compiled m e = has_compiled t code after start long m (rw e at call)

  pub refused_listed : (q : Refusal) {out out' : List ℕ} {r : ℕ} → start + 1024 ≤ 65535 → x ≡ Err q
      → Listed (refusal_line q) out out' r → Listed (listing_of t) out out' r
  unfolding listing_of line_or
  refused_listed q low e listed =
      let given = not_compiled t code after start long q (rw e at call) in
      rw (compiling_room t 1 (omega arith) ∙ sym (compiling_room t start low) ∙ given) listed

-- an instruction is a frame; n is the words of all
pub code_frames : {t after : List ℕ} {start k n : ℕ} → HasCompiled t start k after → length after ≡ width * 1024 → n ≡ width * k → Frames (take n after)
code_frames {after = after} {k = k} has long all =
    rw all (record { frames = k; whole = length-take-le (width * k) after (omega (arith, has.few)); few = has.few })

pub compiled_listed : {t after out out' : List ℕ} {k n r : ℕ} → HasCompiled t 1 k after → n ≡ width * k
    → Listed (text_of width (take n after)) out out' r → Listed (listing_of t) out out' r
unfolding listing_of line_or
compiled_listed has all listed = rw (has.not_refused, ← has.front, ← all) listed

-- ---- the listing of a text, by what `read_text` answered

module _ (b room after : List ℕ) (x : Answer ℕ) (long : length room ≡ 4096) (call : ended x after ≡ reading 4 b room) where
  pub words_read : (n : ℕ) → x ≡ Ok n → Table b n after
  words_read n e = table_read b room after long n (rw e at call)

  pub table_listed : (n : ℕ) {out out' : List ℕ} {r : ℕ} → x ≡ Ok n
      → Listed (listing_of (take n after)) out out' r → Listed (listing b) out out' r
  unfolding listing line_or
  table_listed n e listed = let has = words_read n e in rw (has.not_refused, ← has.front) listed

  pub unread_listed : (q : Refusal) {out out' : List ℕ} {r : ℕ} → x ≡ Err q
      → Listed (refusal_line q) out out' r → Listed (listing b) out out' r
  unfolding listing line_or
  unread_listed q e listed = rw (not_read b room after long q (rw e at call)) listed
