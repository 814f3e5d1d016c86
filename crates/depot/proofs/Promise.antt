-- What the contract of `run_depot` gives, for any answer that meets it: one answer with one content of stores and room, each crew's part and words,
-- and which refusal is given when. Assumes nothing.
use mathlib.Core.Path.{◌≡◌, refl, sym, ap, ◌∙◌}
use mathlib.Core.List.{List}
use mathlib.Core.Option.{Option, none, some}
use Prim.Native.Nat.{ℕ, ◌*◌, ◌<◌}
use native.Mathlib.Omega.{arith}
use contract.Lifetimes.{Lfts}
use denote.Triple.Clauses.{AtExit}
use borrow.Fn.Kinds.{Dens, ended_of}
use lib.IntN.{ℤ}
use lib.ListN.{length, take, drop}
use Rattle.rules.specs.Lists.{joined}
use Rattle.rules.specs.Answer.{Ended, ended, unless_refused, Answer}
use Rattle.rules.specs.declared.Refusal.{Refusal}
use Rattle.rules.proofs.EndedLaws.{answer_is, after_is, one_end, ends_refused, ends_unrefused}
use Rattle.rules.proofs.ListLaws.{block_of_joined, block_of_sets, drop_sets}
use Rattle.table.specs.Checking.{answer}
use Rattle.table.proofs.Answer.{answer_done, answer_refused}
use Rattle.code.specs.CodeRun.{code_run_refusal}
use Rattle.depot.specs.Depot.{crews, crew, crew_words, depot_refusal, Lent, lent, crew_run, crews_run, depot}
use Rattle.depot.specs.DepotSays.{DepotSays}
use Rattle.depot.specs.inside.Ready.{Ready}
use Rattle.depot.proofs.Crews.{left, told, left_length, told_length, stores_length, room_length}
use Rattle.depot.proofs.Refusals.{ten_only_if, ten_if, sixteen_only_if, sixteen_if, done_only_if, done_if, ready}
use Rattle.depot.proofs.run_depot.Kinds.{ps, r}
use Rattle.depot.proofs.run_depot.Reads.{Post}
use Rattle.std.specs.Prelude.{Ok, Err}

-- two ends that meet one definition have one answer, and leave the stores and the room the same
pub one_depot_end : {Told : Type 0} {end : Ended Told Lent} {x y : Told} {s t : List ℤ} {l m : List ℕ}
    → ended x (lent s l) ≡ end → ended y (lent t m) ≡ end → (x ≡ y) × (s ≡ t) × (l ≡ m)
one_depot_end p q = let same = one_end p q in (same.0, ap (λ z. z.stores) same.1, ap (λ z. z.room) same.1)

pub run_depot_determined : (κs : Lfts 4) (a : Dens κs ps) (x y : Answer (Unit {0})) (s t : AtExit (ended_of 4 ps r) κs) → Post κs a x s → Post κs a y t
    → (x ≡ y) × (s.1.1.1.0.now ≡ t.1.1.1.0.now) × (s.1.1.1.1.1.0.now ≡ t.1.1.1.1.1.0.now)
run_depot_determined κs a x y s t p q = one_depot_end p q

-- ---- the crews of a depot that is not refused, by its definition

module _ {t c : List ℕ} {start : ℕ} {stores : List ℤ} (fuel : ℕ) {room : List ℕ} (ok : Ready t c start stores room) where
  crew_left : (i : ℕ) → i < crews stores → crew (crews_run t c start stores fuel room).stores i ≡ (crew_run t c start stores fuel i).after
  unfolding crews_run
  crew_left i h = block_of_joined (left t c start stores fuel) 32 (crews stores) (left_length t c start stores fuel room ok) i h

  crew_told : (i : ℕ) → i < crews stores
      → take 3 (drop (3 * i) (crews_run t c start stores fuel room).room) ≡ crew_words (crew_run t c start stores fuel i).answer
  unfolding crews_run
  crew_told i h =
      block_of_sets (told t c start stores fuel) room 3 (crews stores) (told_length t c start stores fuel room ok) ok.enough i h

  as_many_values : length (crews_run t c start stores fuel room).stores ≡ length stores
  unfolding crews_run
  as_many_values = stores_length t c start stores fuel room ok (crews stores) (omega arith) ∙ omega (arith, ok.whole)

  behind_the_words : drop (3 * crews stores) (crews_run t c start stores fuel room).room ≡ drop (3 * crews stores) room
  unfolding crews_run
  behind_the_words =
      let words = room_length t c start stores fuel room ok (crews stores) (omega arith) in
      rw (← words) (drop_sets (joined (told t c start stores fuel) (crews stores)) room (omega (arith, words, ok.enough)))

-- ---- what an answer says

refused_or_done : (o : Option Refusal) (l m : Lent) → (unless_refused o l (ended (Ok tt) m)).answer ≡ answer o
unfolding unless_refused answer
refused_or_done (some r) l m = refl
refused_or_done none l m = refl

module _ (t c : List ℕ) (start : ℕ) (stores : List ℤ) (fuel : ℕ) (room : List ℕ) (x : Answer (Unit {0})) (stores' : List ℤ) (room' : List ℕ)
    (met : ended x (lent stores' room') ≡ depot t c start stores fuel room) where
  told_refusal : x ≡ answer (depot_refusal t c start stores room)
  unfolding depot
  told_refusal = answer_is met ∙ refused_or_done (depot_refusal t c start stores room) (lent stores room) (crews_run t c start stores fuel room)

  was_refused : (r : Refusal) → x ≡ Err r → depot_refusal t c start stores room ≡ some r
  was_refused r e = answer_refused _ r (sym e ∙ told_refusal)

  was_done : x ≡ Ok tt → depot_refusal t c start stores room ≡ none
  was_done e = answer_done _ (sym e ∙ told_refusal)

  is_refused : (r : Refusal) → depot_refusal t c start stores room ≡ some r → x ≡ Err r
  unfolding answer
  is_refused r e = told_refusal ∙ ap answer e

  is_done : depot_refusal t c start stores room ≡ none → x ≡ Ok tt
  unfolding answer
  is_done e = told_refusal ∙ ap answer e

  left_refused : (r : Refusal) → depot_refusal t c start stores room ≡ some r → lent stores' room' ≡ lent stores room
  unfolding depot
  left_refused r e = after_is (met ∙ ends_refused _ _ _ e)

  left_done : depot_refusal t c start stores room ≡ none → lent stores' room' ≡ crews_run t c start stores fuel room
  unfolding depot
  left_done e = after_is (met ∙ ends_unrefused _ _ _ e)

  -- a crew of a depot that is done: it was not refused, and its part and its words are those of its own run
  module _ (done : x ≡ Ok tt) (i : ℕ) (inside : i < crews stores) where
    pub crew_unrefused : code_run_refusal t c start (crew stores i) ≡ none
    crew_unrefused = (ready t c start stores room (was_done done)).unrefused i inside

    pub crew_part : crew stores' i ≡ (crew_run t c start stores fuel i).after
    crew_part =
        ap (λ (l : Lent). crew l.stores i) (left_done (was_done done)) ∙ crew_left fuel (ready t c start stores room (was_done done)) i inside

    pub crew_row : take 3 (drop (3 * i) room') ≡ crew_words (crew_run t c start stores fuel i).answer
    crew_row =
        ap (λ (l : Lent). take 3 (drop (3 * i) l.room)) (left_done (was_done done))
        ∙ crew_told fuel (ready t c start stores room (was_done done)) i inside

  depot_says : DepotSays t c start stores room x stores' room'
  depot_says = record {
    ten = (λ e. ten_only_if t c start stores room (was_refused _ e), λ h. is_refused _ (ten_if t c start stores room h.0 h.1));
    sixteen = (λ e. sixteen_only_if t c start stores room (was_refused _ e), λ h. is_refused _ (sixteen_if t c start stores room h.0 h.1));
    done = (λ e. done_only_if t c start stores room (was_done e), λ h. is_done (done_if t c start stores room h.0 h.1));
    unaltered = λ r e. let same = left_refused r (was_refused r e) in (ap (λ (l : Lent). l.stores) same, ap (λ (l : Lent). l.room) same);
    only_crews = λ e.
        let unrefused = was_done e in let ok = ready t c start stores room unrefused in let same = left_done unrefused in (
          ap (λ (l : Lent). length l.stores) same ∙ as_many_values fuel ok,
          ap (λ (l : Lent). drop (3 * crews stores) l.room) same ∙ behind_the_words fuel ok,
        );
  }

-- table, code, start label, stores, fuel and room are the arguments, in this order
pub run_depot_says : (κs : Lfts 4) (a : Dens κs ps) (x : Answer (Unit {0})) (s : AtExit (ended_of 4 ps r) κs) → Post κs a x s
    → DepotSays a.0.now a.1.0.now a.1.1.0 a.1.1.1.0.now a.1.1.1.1.1.0.now x s.1.1.1.0.now s.1.1.1.1.1.0.now
run_depot_says κs a x s met = depot_says _ _ _ _ a.1.1.1.1.0 _ x _ _ met
