-- The fixed tokens by number: the table of spellings is right, and which are words.
use mathlib.Core.Path.{◌≡◌, refl, ap, ◌∙◌}
use mathlib.Core.Bool.{true, false}
use mathlib.Core.List.{List, [], ◌∷◌}
use Prim.Native.Nat.{ℕ, zero, suc, ◌+◌, ◌*◌, ◌<◌, ◌≤◌}
use native.Mathlib.Nat.{not-suc-le-zero, le_of_suc-le-suc}
use native.Mathlib.Omega.{arith}
use lib.Dec.{ltb, leb}
use lib.ListN.{length, get_or, take, drop}
use lib.Seq.{get_or-take, get_or-drop}
use borrow.Author.Tests.{ltb-true, leb-true}
use Rattle.rules.specs.Lists.{every}
use Rattle.rules.proofs.ListLaws.{every_true}
use Rattle.rules.specs.Expression.{plus, minus, times, over, rest, equal, at_most, less}
use Rattle.grammar.specs.Token.{Token, mark, rank}
use Rattle.grammar.specs.Token.{skip, if, then, else, end, while, does, choose, not, and}
use Rattle.grammar.specs.Token.{semicolon, becomes, comma, round, round_end, square, square_end}
use Rattle.grammar.specs.Spelling.{spell, mark_spelled, sign_spelled, relation_spelled, truth_spelled, is_word, begins_in_word, in_word}
use Rattle.grammar.specs.Spelling.{is_digit, is_letter}
use Rattle.grammar.specs.machine.Bytes.{fixed}
use Rattle.grammar.proofs.bytes.Fixed.{Fixed, a_mark, a_sign, a_relation, a_truth}
use Rattle.tokens.specs.Tables.{spellings}
use Rattle.tokens.specs.Stand.{kind_of, sign_kind, relation_kind, truth_kind}
use Rattle.tokens.specs.Scan.{spelled_at, spell_number, is_word_kind, carried}

-- the row of the table
unfoldable pub row_at : ℕ → List ℕ
row_at k = take (spell_number k 0) (drop (8 * k + 1) spellings)

pub data Entry (k : ℕ) (t : Token) : Type 0 where
  entry : Fixed t → kind_of t ≡ k → spell t ≡ row_at k → is_word t ≡ is_word_kind k → length (spell t) ≡ spell_number k 0 → Entry k t

data Entries : ℕ → List Token → Type 0 where
  none : {k : ℕ} → Entries k []
  more : {k : ℕ} {t : Token} {ts : List Token} → Entry k t → Entries (suc k) ts → Entries k (t ∷ ts)

all_entries : Entries 0 fixed
unfolding fixed kind_of rank sign_kind relation_kind truth_kind spell mark_spelled sign_spelled relation_spelled truth_spelled
    row_at spell_number spellings is_word begins_in_word in_word is_digit is_letter is_word_kind
all_entries =
    (more (entry (a_mark skip) refl refl refl refl)
    (more (entry (a_mark if) refl refl refl refl)
    (more (entry (a_mark then) refl refl refl refl)
    (more (entry (a_mark else) refl refl refl refl)
    (more (entry (a_mark end) refl refl refl refl)
    (more (entry (a_mark while) refl refl refl refl)
    (more (entry (a_mark does) refl refl refl refl)
    (more (entry (a_mark choose) refl refl refl refl)
    (more (entry (a_mark not) refl refl refl refl)
    (more (entry (a_mark and) refl refl refl refl)
    (more (entry (a_mark semicolon) refl refl refl refl)
    (more (entry (a_mark becomes) refl refl refl refl)
    (more (entry (a_mark comma) refl refl refl refl)
    (more (entry (a_mark round) refl refl refl refl)
    (more (entry (a_mark round_end) refl refl refl refl)
    (more (entry (a_mark square) refl refl refl refl)
    (more (entry (a_mark square_end) refl refl refl refl)
    (more (entry (a_sign plus) refl refl refl refl)
    (more (entry (a_sign minus) refl refl refl refl)
    (more (entry (a_sign times) refl refl refl refl)
    (more (entry (a_sign over) refl refl refl refl)
    (more (entry (a_sign rest) refl refl refl refl)
    (more (entry (a_relation equal) refl refl refl refl)
    (more (entry (a_relation at_most) refl refl refl refl)
    (more (entry (a_relation less) refl refl refl refl)
    (more (entry (a_truth true) refl refl refl refl)
    (more (entry (a_truth false) refl refl refl refl)
    none)))))))))))))))))))))))))))

entry_in : {k : ℕ} {l : List Token} → Entries k l → (i : ℕ) → i < length l → Entry (k + i) (get_or l i (mark skip))
entry_in none i h = absurd (not-suc-le-zero h)
entry_in {k} (more e es) zero h = let q : k + 0 ≡ k = omega arith in rw q e
entry_in {k} (more e es) (suc i) h = let q : k + suc i ≡ suc k + i = omega arith in rw q (entry_in es i (le_of_suc-le-suc h))

pub entry_at : (k : ℕ) → k < 27 → Entry k (get_or fixed k (mark skip))
unfolding fixed
entry_at k h = let q : 0 + k ≡ k = omega arith in rw q at (entry_in all_entries k h)

pub entry_fixed : {k : ℕ} {t : Token} → Entry k t → Fixed t
entry_fixed (entry f a b c d) = f

pub entry_kind : {k : ℕ} {t : Token} → Entry k t → kind_of t ≡ k
entry_kind (entry f a b c d) = a

pub entry_word : {k : ℕ} {t : Token} → Entry k t → is_word t ≡ is_word_kind k
entry_word (entry f a b c d) = c

spelled_in : {k : ℕ} {t : Token} → Entry k t → (j : ℕ) → j < spell_number k 0 → get_or (spell t) j 0 ≡ spell_number k (1 + j)
unfolding row_at spell_number
spelled_in {k} {t} (entry f a b c d) j h =
    let q : 8 * k + 1 + j ≡ 8 * k + (1 + j) = omega arith in
    ap (λ (l : List ℕ). get_or l j 0) b ∙ get_or-take _ _ j 0 h ∙ get_or-drop _ spellings j 0 ∙ ap (λ (i : ℕ). get_or spellings i 0) q

length_in : {k : ℕ} {t : Token} → Entry k t → length (spell t) ≡ spell_number k 0
length_in (entry f a b c d) = d

pub spelled_byte : (k : ℕ) → k < 27 → (j : ℕ) → j < spell_number k 0 → get_or (spelled_at k) j 0 ≡ spell_number k (1 + j)
unfolding spelled_at
spelled_byte k h = spelled_in (entry_at k h)

pub spelled_length : (k : ℕ) → k < 27 → length (spelled_at k) ≡ spell_number k 0
unfolding spelled_at
spelled_length k h = length_in (entry_at k h)

spelled_one : (k : ℕ) → k < 27 → ltb 0 (spell_number k 0) ≡ true
unfolding every spell_number spellings
spelled_one = every_true (λ k. ltb 0 (spell_number k 0)) 27 refl

pub spelled_some : (k : ℕ) → k < 27 → 0 < length (spelled_at k)
spelled_some k h = let s = spelled_length k h in let z = ltb-true 0 (spell_number k 0) (spelled_one k h) in omega arith

spelled_six : (k : ℕ) → k < 27 → leb (spell_number k 0) 6 ≡ true
unfolding every spell_number spellings
spelled_six = every_true (λ k. leb (spell_number k 0) 6) 27 refl

pub spelled_few : (k : ℕ) → k < 27 → spell_number k 0 ≤ 6
spelled_few k h = leb-true (spell_number k 0) 6 (spelled_six k h)

pub fixed_carries : {t : Token} → Fixed t → carried t ≡ 0
unfolding carried
fixed_carries (a_mark m) = refl
fixed_carries (a_sign o) = refl
fixed_carries (a_relation o) = refl
fixed_carries (a_truth v) = refl
