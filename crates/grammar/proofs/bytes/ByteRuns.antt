-- Runs of bytes: a byte that is taken, and what each choice of a step was.
use mathlib.Core.Path.{◌≡◌, refl}
use mathlib.Core.Bool.{Bool, true, false}
use mathlib.Core.List.{List, [], ◌∷◌}
use mathlib.Core.Option.{Option, none, some}
use mathlib.Core.Logic.{◌⊎◌, inl, inr}
use Prim.Native.Nat.{ℕ}
use Rattle.grammar.specs.Rule.{Rule}
use Rattle.grammar.specs.Spelling.{is_blank, in_word}
use Rattle.grammar.specs.machine.Reader.{State, next}
use Rattle.grammar.specs.machine.Bytes.{Pending, Spot, spot, pick, grow, begin, shut, go_on, fresh, byte_step}
use Rattle.grammar.specs.machine.Bytes.{byte_end, next_spot, reach_bytes, read_from}
use Rattle.grammar.proofs.tokens.Choices.{nothing}

pub pick_some : (b : Bool) {P Q : Pending} → pick b P ≡ some Q → (b ≡ true) × (P ≡ Q)
unfolding pick
pick_some true e = (refl, cc)
pick_some false e = absurd (nothing e)

pub pick_true : (b : Bool) (P : Pending) → b ≡ true → pick b P ≡ some P
unfolding pick
pick_true b P e = rw e

pub pick_false : (b : Bool) (P : Pending) → b ≡ false → pick b P ≡ none
unfolding pick
pick_false b P e = rw e

module _ {limit : ℕ} where
  -- if these bytes follow, the whole reads as r
  pub record MeansBytes (B : Spot limit) (bs : List ℕ) (r : Rule) : Type 0 where
    pub is : read_from B bs ≡ some r

  pub record TakesByte (B : Spot limit) (b : ℕ) (B' : Spot limit) : Type 0 where
    pub is : byte_step B b ≡ some B'

  pub taken_byte : {B B' : Spot limit} {b : ℕ} {bs : List ℕ} {r : Rule}
      → TakesByte B b B' → MeansBytes B' bs r → MeansBytes B (b ∷ bs) r
  unfolding read_from reach_bytes next_spot
  taken_byte e m = record { is = rw e.is m.is }

  -- the bytes from bs up to where cs is left lead from B to C
  pub data Leads : Spot limit → List ℕ → Spot limit → List ℕ → Type 0 where
    here : {B : Spot limit} {bs : List ℕ} → Leads B bs B bs
    on : {B C D : Spot limit} {b : ℕ} {bs cs : List ℕ} → TakesByte B b C → Leads C bs D cs → Leads B (b ∷ bs) D cs

  pub leads_then : {A B C : Spot limit} {xs bs cs : List ℕ} → Leads A xs B bs → Leads B bs C cs → Leads A xs C cs
  leads_then here m = m
  leads_then (on e l) m = on e (leads_then l m)

  pub leads_means : {B C : Spot limit} {bs cs : List ℕ} {r : Rule}
      → Leads B bs C cs → MeansBytes C cs r → MeansBytes B bs r
  leads_means here m = m
  leads_means (on e l) m = taken_byte e (leads_means l m)

  takes_byte : (B : Spot limit) (o : Option (Spot limit)) (b : ℕ) (bs : List ℕ) {r : Rule}
      → byte_step B b ≡ o → read_from B (b ∷ bs) ≡ some r
      → (B' : Spot limit) × TakesByte B b B' × MeansBytes B' bs r
  unfolding read_from reach_bytes next_spot
  takes_byte B none b bs e h = absurd (nothing (rw e at h))
  takes_byte B (some B') b bs e h = (B', record { is = e }, record { is = rw e at h })

  pub took_byte : {B : Spot limit} {b : ℕ} {bs : List ℕ} {r : Rule} → MeansBytes B (b ∷ bs) r
      → (B' : Spot limit) × TakesByte B b B' × MeansBytes B' bs r
  took_byte {B} {b} {bs} m = takes_byte B (byte_step B b) b bs refl m.is

  pub ended_byte : {B : Spot limit} {r : Rule} → MeansBytes B [] r → byte_end B ≡ some r
  unfolding read_from reach_bytes next_spot
  ended_byte m = m.is

  pub byte_ended : {B : Spot limit} {r : Rule} → byte_end B ≡ some r → MeansBytes B [] r
  unfolding read_from reach_bytes next_spot
  byte_ended e = record { is = e }

  pub next_some : {A : Type 0} (o : Option (State limit)) {f : State limit → Option A} {a : A} → next o f ≡ some a
      → (S : State limit) × (o ≡ some S) × (f S ≡ some a)
  unfolding next
  next_some none e = absurd (nothing e)
  next_some (some S) e = (S, refl, e)

  go_on_some : (S : State limit) (o : Option Pending) {other : Option (Spot limit)} {B : Spot limit}
      → go_on S o other ≡ some B
      → ((P : Pending) × (o ≡ some P) × (spot S P ≡ B)) ⊎ ((o ≡ none) × (other ≡ some B))
  unfolding go_on
  go_on_some S none e = inr (refl, e)
  go_on_some S (some P) e = inl (P, refl, cc)

  blank_some : (b : Bool) {B B' : Spot limit} → ◌≡◌ {A = Option (Spot limit)} (elim b [ true ↦ some B | false ↦ none ]) (some B') → (b ≡ true) × (B ≡ B')
  blank_some true e = (refl, cc)
  blank_some false e = absurd (nothing e)

  pub fresh_some : (b : ℕ) (S : State limit) {B : Spot limit} → fresh b S ≡ some B
      → ((P : Pending) × (begin S b ≡ some P) × (spot S P ≡ B)) ⊎ ((is_blank b ≡ true) × (spot S Pending.nothing ≡ B))
  unfolding fresh
  fresh_some b S e = split (go_on_some S (begin S b) e)
    where
      split : {B : Spot limit} → ((P : Pending) × (begin S b ≡ some P) × (spot S P ≡ B))
          ⊎ ((begin S b ≡ none) × (◌≡◌ {A = Option (Spot limit)} (elim (is_blank b) [ true ↦ some (spot S Pending.nothing) | false ↦ none ]) (some B)))
          → ((P : Pending) × (begin S b ≡ some P) × (spot S P ≡ B)) ⊎ ((is_blank b ≡ true) × (spot S Pending.nothing ≡ B))
      split (inl x) = inl x
      split (inr x) = inr (blank_some (is_blank b) x.1)

  -- a step of bytes: the pending token goes on, or it is closed and the byte begins anew
  pub step_some : (S : State limit) (P : Pending) (b : ℕ) {B : Spot limit} → byte_step (spot S P) b ≡ some B
      → ((Q : Pending) × (grow S P b ≡ some Q) × (spot S Q ≡ B))
      ⊎ ((R : State limit) × (shut S (in_word b) P ≡ some R) × (fresh b R ≡ some B))
  unfolding byte_step
  step_some S P b e = split (go_on_some S (grow S P b) e)
    where
      split : {B : Spot limit} → ((Q : Pending) × (grow S P b ≡ some Q) × (spot S Q ≡ B))
          ⊎ ((grow S P b ≡ none) × (next (shut S (in_word b) P) (fresh b) ≡ some B))
          → ((Q : Pending) × (grow S P b ≡ some Q) × (spot S Q ≡ B)) ⊎ ((R : State limit) × (shut S (in_word b) P ≡ some R) × (fresh b R ≡ some B))
      split (inl x) = inl x
      split (inr x) = inr (next_some (shut S (in_word b) P) x.1)
