-- What A4 asks of the grammar and its reader: the machine reads exactly the texts of the grammar, a text has one reading only, and the
-- place of refusal 17 is the number of bytes that the machine takes.
use mathlib.Core.Path.{◌≡◌, refl, sym, ◌∙◌, subst}
use mathlib.Core.List.{List, [], ◌∷◌, ◌++◌}
use mathlib.Core.Option.{Option, none, some}
use Prim.Native.Nat.{ℕ, zero, suc, ◌≤◌}
use native.Mathlib.Nat.{le_of_suc-le-suc, not-suc-le-zero, le_refl}
use native.Mathlib.Omega.{arith}
use lib.ListN.{length, take}
use Rattle.grammar.specs.Rule.{Rule}
use Rattle.grammar.specs.Token.{Token}
use Rattle.grammar.specs.Grammar.{nesting, Reads}
use Rattle.grammar.specs.Layout.{InGrammar, Begins, Longest}
use Rattle.grammar.specs.machine.Reader.{Phrase, whole, have, whole_rule, ends, next, reach, run, start}
use Rattle.grammar.specs.machine.Bytes.{Pending, Spot, spot, byte_step, next_spot, reach_bytes, or_stuck, taken}
use Rattle.grammar.specs.machine.Bytes.{read_text, taken_of}
use Rattle.grammar.proofs.tokens.Choices.{nothing}
use Rattle.grammar.proofs.tokens.Runs.{Means}
use Rattle.grammar.proofs.tokens.Complete.{row_means}
use Rattle.grammar.proofs.tokens.Sound.{row_read}
use Rattle.grammar.proofs.bytes.ByteRuns.{MeansBytes, taken_byte, took_byte}
use Rattle.grammar.proofs.bytes.Pendings.{spelled, proper}
use Rattle.grammar.proofs.bytes.ByteSound.{bytes_read}
use Rattle.grammar.proofs.bytes.ByteComplete.{laid_reads}
use Rattle.grammar.proofs.bytes.ByteFinish.{GoodSpot, good, good_nothing, step_good, good_finishes}

abbrev first : Spot nesting
first = spot start Pending.nothing

-- ---- exactly the texts of the grammar

whole_means : {r : Rule} → Means (have Phrase.row nesting whole r) [] r
unfolding run reach next ends whole_rule
whole_means = record { is = refl }

pub tokens_read : {ts : List Token} {r : Rule} → Reads ts r → run start ts ≡ some r
tokens_read d = (row_means d whole whole_means).is

pub read_tokens : {ts : List Token} {r : Rule} → run start ts ≡ some r → Reads ts r
read_tokens e = row_read (record { is = e })

pub in_grammar_read : (text : List ℕ) {r : Rule} → InGrammar text r → read_text text ≡ some r
unfolding read_text
in_grammar_read text g = (laid_reads g.1 start (record { is = tokens_read g.2 })).is

pub read_in_grammar : (text : List ℕ) {r : Rule} → read_text text ≡ some r → InGrammar text r
unfolding read_text spelled proper
read_in_grammar text e =
    let k = bytes_read text start Pending.nothing refl (record { is = e }) in
    (k.tokens, k.laid, read_tokens k.means.is)

-- "it has one reading only"
pub one_reading : (text : List ℕ) {r q : Rule} → InGrammar text r → InGrammar text q → r ≡ q
one_reading text g h = let e = sym (in_grammar_read text g) ∙ in_grammar_read text h in cc

-- ---- the place where a text leaves the grammar

module _ {limit : ℕ} where
  stuck_or : (o : Option (Spot limit)) (j : ℕ) (f : Spot limit → ℕ)
      → suc j ≤ or_stuck o f → (C : Spot limit) × (o ≡ some C) × (suc j ≤ f C)
  unfolding or_stuck
  stuck_or none j f h = absurd (not-suc-le-zero h)
  stuck_or (some C) j f h = (C, refl, h)

  spot_some : {A : Type 0} (o : Option (Spot limit)) {f : Spot limit → Option A} {a : A} → next_spot o f ≡ some a
      → (C : Spot limit) × (o ≡ some C) × (f C ≡ some a)
  unfolding next_spot
  spot_some none e = absurd (nothing e)
  spot_some (some C) e = (C, refl, e)

  reach_one : (B : Spot limit) (b : ℕ) (p : List ℕ) {C D : Spot limit} → byte_step B b ≡ some C → reach_bytes C p ≡ some D
      → reach_bytes B (b ∷ p) ≡ some D
  unfolding reach_bytes next_spot
  reach_one B b p e f = rw e f

  -- the machine comes through as many bytes as it takes, and no more
  reach_take : (bs : List ℕ) (B : Spot limit) (j : ℕ)
      → j ≤ taken B bs → (C : Spot limit) × (reach_bytes B (take j bs) ≡ some C)
  unfolding taken reach_bytes
  reach_take [] B zero h = (B, refl)
  reach_take [] B (suc j) h = (B, refl)
  reach_take (b ∷ bs) B zero h = (B, refl)
  reach_take (b ∷ bs) B (suc j) h =
      let k = stuck_or (byte_step B b) j (λ C. suc (taken C bs)) h in
      let m = reach_take bs k.0 j (le_of_suc-le-suc k.2) in
      (m.0, reach_one B b (take j bs) k.1 m.1)

  take_reach : (bs : List ℕ) (B : Spot limit) (j : ℕ) {C : Spot limit}
      → j ≤ length bs → reach_bytes B (take j bs) ≡ some C → j ≤ taken B bs
  unfolding taken reach_bytes or_stuck
  take_reach [] B j h e = h
  take_reach (b ∷ bs) B zero h e = omega arith
  take_reach (b ∷ bs) B (suc j) h e =
      let k = spot_some (byte_step B b) e in
      let q = k.1 in
      let m : j ≤ taken k.0 bs = take_reach bs k.0 j (le_of_suc-le-suc h) k.2 in
      rw q (let l : suc j ≤ suc (taken k.0 bs) = omega arith in l)

  taken_within : (bs : List ℕ) (B : Spot limit) → taken B bs ≤ length bs
  unfolding taken or_stuck
  taken_within [] B = omega arith
  taken_within (b ∷ bs) B = split (byte_step B b) (λ C. taken_within bs C)
    where
      split : (o : Option (Spot limit))
          → ((C : Spot limit) → taken C bs ≤ length bs) → or_stuck o (λ C. suc (taken C bs)) ≤ suc (length bs)
      split none later = omega arith
      split (some C) later = let l = later C in omega arith

  reach_good : (p : List ℕ) {B C : Spot limit} → GoodSpot B → reach_bytes B p ≡ some C → GoodSpot C
  unfolding reach_bytes
  reach_good [] g e = subst GoodSpot (cc) g
  reach_good (b ∷ p) {B} g e = let k = spot_some (byte_step B b) e in reach_good p (step_good b g k.1) k.2

  reach_means : (p : List ℕ) {q : List ℕ} {B C : Spot limit} {r : Rule}
      → reach_bytes B p ≡ some C → MeansBytes C q r → MeansBytes B (p ++ q) r
  unfolding reach_bytes
  reach_means [] {q} {r = r} e m = subst (λ (X : Spot limit). MeansBytes X q r) (cc) m
  reach_means (b ∷ p) {B = B} e m = let k = spot_some (byte_step B b) e in taken_byte (record { is = k.1 }) (reach_means p k.2 m)

  means_reach : (p q : List ℕ) {B : Spot limit} {r : Rule}
      → MeansBytes B (p ++ q) r → (C : Spot limit) × (reach_bytes B p ≡ some C)
  unfolding reach_bytes
  means_reach [] q {B} m = (B, refl)
  means_reach (b ∷ p) q {B} m =
      let k = took_byte m in
      let l = means_reach p q k.2 in
      (l.0, reach_one B b p k.1.is l.1)

pub begins_reached : (p : List ℕ) → Begins p → (C : Spot nesting) × (reach_bytes first p ≡ some C)
unfolding read_text
begins_reached p g = means_reach p g.0 (record { is = in_grammar_read (p ++ g.0) g.2 })

-- every spot that is reached can be completed, within the nesting
pub reached_begins : (p : List ℕ) {C : Spot nesting} → reach_bytes first p ≡ some C → Begins p
unfolding read_text
reached_begins p e =
    let k = good_finishes (reach_good p (good good_nothing) e) in
    (k.0, k.1, read_in_grammar (p ++ k.0) (reach_means p e k.2).is)

-- refusal 17's place
pub place : (text : List ℕ) → Longest text (taken_of text)
unfolding taken_of
place text = record {
  within = taken_within text first;
  begins = reached_begins (take (taken first text) text) (reach_take text first (taken first text) (le_refl _)).1;
  longest = λ j h g. take_reach text first j h (begins_reached (take j text) g).1;
}

pub one_place : (text : List ℕ) {j k : ℕ} → Longest text j → Longest text k → j ≡ k
one_place text {j} {k} a b =
    let up : j ≤ k = b.longest j a.within a.begins in
    let down : k ≤ j = a.longest k b.within b.begins in
    omega arith
