-- Runs: a token that is taken, and a state that takes whatever another takes.
use mathlib.Core.Path.{◌≡◌, refl}
use mathlib.Core.List.{List, [], ◌∷◌}
use mathlib.Core.Option.{Option, none, some}
use Prim.Native.Nat.{ℕ}
use Rattle.grammar.specs.Rule.{Rule}
use Rattle.grammar.specs.Token.{Token}
use Rattle.grammar.specs.machine.Reader.{State, step, ends, next, reach, run}
use Rattle.grammar.proofs.tokens.Choices.{nothing}

module _ {limit : ℕ} where
  -- if these tokens follow, the whole reads as r
  pub record Means (S : State limit) (ts : List Token) (r : Rule) : Type 0 where
    pub is : run S ts ≡ some r

  pub record Takes (S : State limit) (t : Token) (S' : State limit) : Type 0 where
    pub is : step S t ≡ some S'

  pub taken : {S S' : State limit} {t : Token} {ts : List Token} {r : Rule}
      → Takes S t S' → Means S' ts r → Means S (t ∷ ts) r
  unfolding run reach next
  taken e m = record { is = rw e.is m.is }

  takes : (S : State limit) (o : Option (State limit)) (t : Token) (ts : List Token) {r : Rule}
      → step S t ≡ o → run S (t ∷ ts) ≡ some r
      → (S' : State limit) × Takes S t S' × Means S' ts r
  unfolding run reach next
  takes S none t ts e h = absurd (nothing (rw e at h))
  takes S (some S') t ts e h = (S', record { is = e }, record { is = rw e at h })

  pub took : {S : State limit} {t : Token} {ts : List Token} {r : Rule} → Means S (t ∷ ts) r
      → (S' : State limit) × Takes S t S' × Means S' ts r
  took {S} {t} {ts} m = takes S (step S t) t ts refl m.is

  -- S' takes whatever S takes, and to the same end
  pub record Grows (S S' : State limit) : Type 0 where
    pub steps : (t : Token) {R : State limit} → step S t ≡ some R → step S' t ≡ some R
    pub finishes : {r : Rule} → ends S ≡ some r → ends S' ≡ some r

  pub grown : {S S' : State limit} {ts : List Token} {r : Rule} → Grows S S' → Means S ts r → Means S' ts r
  unfolding run reach next
  grown {ts = []} g m = record { is = g.finishes m.is }
  grown {ts = t ∷ ts} g m = let k = took m in taken (record { is = g.steps t k.1.is }) k.2
