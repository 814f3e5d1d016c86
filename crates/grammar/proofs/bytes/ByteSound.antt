-- Whatever the machine reads of bytes is laid out as tokens that the machine on tokens reads to the same rule.
use mathlib.Core.Path.{◌≡◌, refl, sym, ap, ◌∙◌, subst}
use mathlib.Core.Bool.{Bool, true, false, ◌&&◌}
use mathlib.Core.List.{List, [], ◌∷◌, ◌++◌, append_assoc}
use mathlib.Core.Option.{some}
use mathlib.Core.Logic.{◌⊎◌, inl, inr}
use Prim.Native.Nat.{ℕ}
use Rattle.grammar.specs.Rule.{Rule}
use Rattle.grammar.specs.Token.{Token}
use Rattle.grammar.specs.Spelling.{in_word, begins_in_word, is_word, is_blank}
use Rattle.grammar.specs.Layout.{Laid, done, blank, token}
use Rattle.grammar.specs.machine.Reader.{State, ends, next, reach, run}
use Rattle.grammar.specs.machine.Bytes.{Pending, Spot, spot, begin, grow, shut, fresh, byte_end}
use Rattle.grammar.proofs.tokens.Runs.{Means, taken}
use Rattle.grammar.proofs.bytes.ByteRuns.{MeansBytes, took_byte, ended_byte, next_some, fresh_some, step_some}
use Rattle.grammar.proofs.bytes.Pendings.{spelled, proper, Grew, grow_grew, Shut, was_nothing, was_token, shut_is}

not_both : (a b : Bool) → (a && b) ≡ false → a ≡ true → b ≡ false
not_both true b e h = e
not_both false b e h = cc

module _ {limit : ℕ} where
  -- the bytes bs are tokens that S reads as r
  pub record Tokens (S : State limit) (bs : List ℕ) (r : Rule) : Type 0 where
    pub tokens : List Token
    pub laid : Laid bs tokens
    pub means : Means S tokens r

  -- the token that was closed, before the bytes that follow
  closed : {S R : State limit} {r : Rule} (bs : List ℕ) {P : Pending}
      → Shut S (begins_in_word bs) P R → Tokens R bs r → Tokens S (spelled P ++ bs) r
  unfolding spelled
  closed {r = r} bs (was_nothing p q) t =
      let back : Tokens _ bs r = subst (λ (X : State limit). Tokens X bs r) (sym q) t in
      rw p back
  closed bs (was_token t s i e w) k = record {
    tokens = t ∷ k.tokens;
    laid = subst (λ (p : List ℕ). Laid (p ++ bs) (t ∷ k.tokens)) s (token i (λ h. not_both (is_word t) (begins_in_word bs) w h) k.laid);
    means = taken (record { is = e }) k.means;
  }

  ended : {S : State limit} {r : Rule} → ends S ≡ some r → Tokens S [] r
  unfolding run reach next
  ended e = record { tokens = []; laid = done; means = record { is = e } }

  end_read : (S : State limit) (P : Pending) {r : Rule}
      → proper P ≡ true → byte_end (spot S P) ≡ some r → Tokens S (spelled P ++ []) r
  unfolding byte_end begins_in_word
  end_read S P h e =
      let k = next_some (shut S false P) e in
      closed [] (shut_is S false P h k.1) (ended k.2)

  -- bytes pending, then b and the rest, in one row
  moved : {S : State limit} {r : Rule} {P Q : Pending} (b : ℕ) (bs : List ℕ) → Grew P b Q → Tokens S (spelled Q ++ bs) r
      → Tokens S (spelled P ++ (b ∷ bs)) r
  moved {S} {r} {P} {Q} b bs g t =
      let e : spelled Q ++ bs ≡ spelled P ++ (b ∷ bs) = ap (λ (p : List ℕ). p ++ bs) g.bytes ∙ append_assoc (spelled P) (b ∷ []) bs in
      subst (λ (p : List ℕ). Tokens S p r) e t

  blanked : {S : State limit} {r : Rule} {b : ℕ} {bs : List ℕ} → is_blank b ≡ true → Tokens S bs r → Tokens S (b ∷ bs) r
  blanked h t = record { tokens = t.tokens; laid = blank h t.laid; means = t.means }

  module _ (b : ℕ) (bs : List ℕ) {r : Rule}
      (later : (R : State limit) (Q : Pending) → proper Q ≡ true → MeansBytes (spot R Q) bs r → Tokens R (spelled Q ++ bs) r) where
    grown_read : (R : State limit) (P Q : Pending) {B : Spot limit} → proper P ≡ true → grow R P b ≡ some Q → spot R Q ≡ B
        → MeansBytes B bs r → Tokens R (spelled P ++ (b ∷ bs)) r
    grown_read R P Q h g e m =
        let w = grow_grew R P b h g in
        moved b bs w (later R Q w.keeps (subst (λ (B : Spot limit). MeansBytes B bs r) (sym e) m))

    fresh_read : (R : State limit) {B : Spot limit} → MeansBytes B bs r
        → ((Q : Pending) × (begin R b ≡ some Q) × (spot R Q ≡ B)) ⊎ ((is_blank b ≡ true) × (spot R Pending.nothing ≡ B))
        → Tokens R (b ∷ bs) r
    unfolding grow spelled proper
    fresh_read R m (inl x) = grown_read R Pending.nothing x.0 refl x.1 x.2 m
    fresh_read R m (inr x) = blanked x.0 (later R Pending.nothing refl (subst (λ (B : Spot limit). MeansBytes B bs r) (sym x.1) m))

    byte_read : (S : State limit) (P : Pending) {B : Spot limit} → proper P ≡ true → MeansBytes B bs r
        → ((Q : Pending) × (grow S P b ≡ some Q) × (spot S Q ≡ B))
        ⊎ ((R : State limit) × (shut S (in_word b) P ≡ some R) × (fresh b R ≡ some B))
        → Tokens S (spelled P ++ (b ∷ bs)) r
    unfolding begins_in_word
    byte_read S P h m (inl x) = grown_read S P x.0 h x.1 x.2 m
    byte_read S P h m (inr x) = closed (b ∷ bs) (shut_is S (in_word b) P h x.1) (fresh_read x.0 m (fresh_some b x.0 x.2))

  pub bytes_read : (bs : List ℕ) (S : State limit) (P : Pending) {r : Rule} → proper P ≡ true → MeansBytes (spot S P) bs r
      → Tokens S (spelled P ++ bs) r
  bytes_read [] S P h m = end_read S P h (ended_byte m)
  bytes_read (b ∷ bs) S P h m =
      let k = took_byte m in
      byte_read b bs (λ R Q. bytes_read bs R Q) S P h k.2 (step_some S P b k.1.is)
