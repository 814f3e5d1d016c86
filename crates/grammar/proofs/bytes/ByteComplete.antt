-- Whatever is laid out as tokens that the machine on tokens reads, the machine on bytes reads to the same rule.
use mathlib.Core.Path.{◌≡◌, refl, sym, ◌∙◌}
use mathlib.Core.Bool.{Bool, true, false, ◌||◌}
use mathlib.Core.List.{List, [], ◌∷◌}
use mathlib.Core.Option.{Option, none, some}
use Prim.Native.Nat.{ℕ}
use lib.Dec.{eqb}
use borrow.Author.Tests.{eqb-true}
use Rattle.rules.specs.Expression.{less}
use Rattle.grammar.specs.Rule.{Rule}
use Rattle.grammar.specs.Token.{Token, relation}
use Rattle.grammar.specs.Spelling.{spell, mark_spelled, sign_spelled, relation_spelled, truth_spelled}
use Rattle.grammar.specs.Spelling.{is_digit, in_word, begins_in_word, is_word, is_blank}
use Rattle.grammar.specs.Layout.{Laid, done, blank, token, Parted}
use Rattle.grammar.specs.machine.Reader.{State, step, next, reach, run}
use Rattle.grammar.specs.machine.Bytes.{Pending, Spot, spot, fixed, begins, any, pick, some_begins}
use Rattle.grammar.specs.machine.Bytes.{begin, grow, shut, go_on, fresh, byte_step, byte_end}
use Rattle.grammar.proofs.tokens.Choices.{nothing}
use Rattle.grammar.proofs.tokens.Runs.{Means, took}
use Rattle.grammar.proofs.bytes.ByteRuns.{MeansBytes, TakesByte, taken_byte, took_byte, byte_ended, ended_byte}
use Rattle.grammar.proofs.bytes.ByteRuns.{leads_means}
use Rattle.grammar.proofs.tokens.Followers.{some_taking, no_equal}
use Rattle.grammar.proofs.bytes.TokenBytes.{pending_of, Kind, kind, token_leads, shuts, stays, both_false}

module _ {limit : ℕ} where
  twice : (S : State limit) (o : Option Pending) (x : Option (Spot limit)) → go_on S o (go_on S o x) ≡ go_on S o x
  unfolding go_on
  twice S none x = refl
  twice S (some P) x = refl

  pub fresh_step : (S : State limit) (b : ℕ) → byte_step (spot S Pending.nothing) b ≡ fresh b S
  unfolding byte_step grow shut fresh next
  fresh_step S b = twice S (begin S b) _

  shut_step : (S R : State limit) (P : Pending) (b : ℕ)
      → grow S P b ≡ none → shut S (in_word b) P ≡ some R → byte_step (spot S P) b ≡ fresh b R
  unfolding byte_step go_on next
  shut_step S R P b g s = rw (g, s)

  pub closed_step : (S R : State limit) (P : Pending) (b : ℕ) → grow S P b ≡ none → shut S (in_word b) P ≡ some R
      → byte_step (spot S P) b ≡ byte_step (spot R Pending.nothing) b
  closed_step S R P b g s = shut_step S R P b g s ∙ sym (fresh_step R b)

  -- after < the byte = is never taken
  equal_stuck : (R : State limit) → begin R 61 ≡ none → byte_step (spot R Pending.nothing) 61 ≡ none
  unfolding fresh go_on is_blank
  equal_stuck R e = fresh_step R 61 ∙ rw e

  after_less : (S R : State limit) (b : ℕ) {B : Spot limit}
      → step S (relation less) ≡ some R → byte_step (spot R Pending.nothing) b ≡ some B → eqb b 61 ≡ false
  after_less S R b {B} e h = split (eqb b 61) refl
    where
      split : (c : Bool) → eqb b 61 ≡ c → c ≡ false
      split false q = refl
      split true q =
          let i : b ≡ 61 = eqb-true b 61 q in
          let h₂ : byte_step (spot R Pending.nothing) 61 ≡ some B = rw i at h in
          absurd (nothing (sym (equal_stuck R (no_equal S less e)) ∙ h₂))

  -- t at hand, then bytes that read on from where t leads
  pub closes_read : (S R : State limit) {t : Token} → Kind t → (bs : List ℕ) {r : Rule} → Parted t bs → step S t ≡ some R
      → MeansBytes (spot R Pending.nothing) bs r → MeansBytes (spot S (pending_of t)) bs r
  unfolding begins_in_word byte_end next shut
  closes_read S R {t} k [] p e m =
      byte_ended (let q = shuts S false k (both_false (is_word t) false (λ h. refl)) ∙ e in rw q (ended_byte m))
  closes_read S R {t} k (b ∷ bs) p e m =
      let d = took_byte m in
      let q = shuts S (in_word b) k (both_false (is_word t) (in_word b) p) ∙ e in
      taken_byte (record { is = closed_step S R (pending_of t) b (stays S k b p (λ i. after_less S R b (rw i at e) d.1.is)) q ∙ d.1.is }) d.2

  -- ---- the induction on the layout

  blank_begins_nothing : (S : State limit) (b : ℕ) → is_blank b ≡ true → begin S b ≡ none
  unfolding is_blank begin is_digit pick some_begins any fixed begins spell mark_spelled sign_spelled relation_spelled truth_spelled
  blank_begins_nothing S b e = either (eqb b 32) (eqb b 10) refl refl e
    where
      either : (x y : Bool) → eqb b 32 ≡ x → eqb b 10 ≡ y → (x || y) ≡ true → begin S b ≡ none
      either true y p q h = let i : b ≡ 32 = eqb-true b 32 p in rw i
      either false true p q h = let i : b ≡ 10 = eqb-true b 10 q in rw i
      either false false p q h = cc

  pub blank_taken : (S : State limit) (b : ℕ)
      → is_blank b ≡ true → TakesByte (spot S Pending.nothing) b (spot S Pending.nothing)
  unfolding fresh go_on
  blank_taken S b h = record { is = fresh_step S b ∙ rw (blank_begins_nothing S b h, h) }

  nothing_ends : (S : State limit) {r : Rule} → Means S [] r → MeansBytes (spot S Pending.nothing) [] r
  unfolding run reach next byte_end shut
  nothing_ends S m = byte_ended m.is

  pub laid_reads : {bs : List ℕ} {ts : List Token} {r : Rule} → Laid bs ts → (S : State limit) → Means S ts r
      → MeansBytes (spot S Pending.nothing) bs r
  laid_reads done S m = nothing_ends S m
  laid_reads (blank h l) S m = taken_byte (blank_taken S _ h) (laid_reads l S m)
  laid_reads (token {t = t} {bs = bs} i p l) S m =
      let k = took m in
      let e : step S t ≡ some k.0 = k.1.is in
      leads_means (token_leads S (kind t) i (some_taking (step S t) e) bs)
      (closes_read S k.0 (kind t) bs p e (laid_reads l k.0 k.2))
