-- The machine on bytes, a token at a time, as a program reads: a blank or a whole token leads on with reading and place unchanged, and
-- where nothing leads on the reading is none and the place is here.
use mathlib.Core.Path.{◌≡◌, refl, ◌∙◌}
use mathlib.Core.Bool.{Bool, true, false}
use mathlib.Core.List.{List, [], ◌∷◌, ◌++◌}
use mathlib.Core.Option.{none, some}
use Prim.Native.Nat.{ℕ, ◌+◌}
use native.Mathlib.Omega.{arith}
use lib.Dec.{eqb}
use lib.ListN.{length}
use Rattle.rules.specs.Expression.{less}
use Rattle.grammar.specs.Token.{Token, relation}
use Rattle.grammar.specs.Spelling.{spell, in_range, is_word, in_word, is_blank, begins_in_word}
use Rattle.grammar.specs.Layout.{Parted}
use Rattle.grammar.specs.machine.Reader.{State, step, next}
use Rattle.grammar.specs.machine.Bytes.{Pending, Spot, spot, begin, grow, shut, go_on, fresh, byte_step, byte_end}
use Rattle.grammar.specs.machine.Bytes.{next_spot, reach_bytes, read_from, or_stuck, taken}
use Rattle.grammar.proofs.tokens.Followers.{some_taking}
use Rattle.grammar.proofs.bytes.ByteRuns.{TakesByte, Leads, here, on}
use Rattle.grammar.proofs.bytes.TokenBytes.{pending_of, kind, token_leads, shuts, stays, both_false}
use Rattle.grammar.proofs.bytes.ByteComplete.{closed_step, blank_taken, fresh_step}

-- the byte = is next
unfoldable pub equal_next : List ℕ → Bool
equal_next [] = false
equal_next (b ∷ bs) = eqb b 61

module _ {limit : ℕ} where
  -- what B makes of bs is what C makes of cs, a later part of the text; the place is counted from one beginning
  pub record Same (B : Spot limit) (bs : List ℕ) (C : Spot limit) (cs : List ℕ) : Type 0 where
    pub reads : read_from B bs ≡ read_from C cs
    pub place : taken B bs + length cs ≡ taken C cs + length bs

  -- nothing of bs is taken
  pub record Stuck (B : Spot limit) (bs : List ℕ) : Type 0 where
    pub reads : read_from B bs ≡ none
    pub place : taken B bs ≡ 0

  pub same_then : {B C D : Spot limit} {bs cs ds : List ℕ} → Same B bs C cs → Same C cs D ds → Same B bs D ds
  same_then x y = record { reads = x.reads ∙ y.reads; place = let p = x.place in let q = y.place in omega arith }

  byte_same : {B C : Spot limit} {b : ℕ} (bs : List ℕ) → TakesByte B b C → Same B (b ∷ bs) C bs
  unfolding read_from reach_bytes next_spot taken or_stuck
  byte_same bs e = let q = e.is in record { reads = rw q; place = rw q (omega arith) }

  pub leads_same : {B C : Spot limit} {bs cs : List ℕ} → Leads B bs C cs → Same B bs C cs
  leads_same here = record { reads = refl; place = refl }
  leads_same (on {bs = bs} e l) = same_then (byte_same bs e) (leads_same l)

  -- two spots that take the next byte alike, or end alike
  first_alike : (B C : Spot limit) (b : ℕ) (bs : List ℕ) → byte_step B b ≡ byte_step C b → Same B (b ∷ bs) C (b ∷ bs)
  unfolding read_from reach_bytes next_spot taken
  first_alike B C b bs q = record { reads = rw q; place = rw q }

  ends_alike : (B C : Spot limit) → byte_end B ≡ byte_end C → Same B [] C []
  unfolding read_from reach_bytes next_spot taken
  ends_alike B C q = record { reads = q; place = refl }

  -- a token at hand is as good as taken
  pub closes_same : (S R : State limit) (t : Token) (bs : List ℕ)
      → Parted t bs → (t ≡ relation less → equal_next bs ≡ false)
      → step S t ≡ some R → Same (spot S (pending_of t)) bs (spot R Pending.nothing) bs
  unfolding equal_next begins_in_word byte_end next shut
  closes_same S R t [] p l e =
      let q = shuts S false (kind t) (both_false (is_word t) false (λ h. refl)) ∙ e in
      ends_alike _ _ (rw q refl)
  closes_same S R t (b ∷ bs) p l e =
      let q = shuts S (in_word b) (kind t) (both_false (is_word t) (in_word b) p) ∙ e in
      first_alike _ _ b bs (closed_step S R (pending_of t) b (stays S (kind t) b p l) q)

  pub blank_same : (S : State limit) (b : ℕ) (bs : List ℕ)
      → is_blank b ≡ true → Same (spot S Pending.nothing) (b ∷ bs) (spot S Pending.nothing) bs
  blank_same S b bs h = byte_same bs (blank_taken S b h)

  pub token_same : (S R : State limit) (t : Token) (bs : List ℕ) → in_range t ≡ true → Parted t bs
      → (t ≡ relation less → equal_next bs ≡ false) → step S t ≡ some R
      → Same (spot S Pending.nothing) (spell t ++ bs) (spot R Pending.nothing) bs
  token_same S R t bs i p l e =
      same_then (leads_same (token_leads S (kind t) i (some_taking (step S t) e) bs)) (closes_same S R t bs p l e)

  -- ---- where nothing leads on

  stuck_step : {B : Spot limit} {b : ℕ} (bs : List ℕ) → byte_step B b ≡ none → Stuck B (b ∷ bs)
  unfolding read_from reach_bytes next_spot taken or_stuck
  stuck_step bs e = record { reads = rw e; place = rw e }

  pub stuck_begin : (S : State limit) (b : ℕ) (bs : List ℕ)
      → begin S b ≡ none → is_blank b ≡ false → Stuck (spot S Pending.nothing) (b ∷ bs)
  unfolding fresh go_on
  stuck_begin S b bs e h = stuck_step bs (fresh_step S b ∙ rw (e, h))

  pub stuck_pending : (S : State limit) (P : Pending) (b : ℕ) (bs : List ℕ)
      → grow S P b ≡ none → shut S (in_word b) P ≡ none
      → Stuck (spot S P) (b ∷ bs)
  unfolding byte_step go_on next
  stuck_pending S P b bs g s = stuck_step bs (rw (g, s))
