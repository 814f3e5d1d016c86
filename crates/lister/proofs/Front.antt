-- The first 33,793 bytes decide the listing: of a longer input the listing is that of its front, which the program reads.
use mathlib.Core.Path.{◌≡◌, refl, sym, ap, ◌∙◌}
use mathlib.Core.Bool.{Bool, true, false, cond, ◌&&◌}
use mathlib.Core.List.{List}
use mathlib.Core.Option.{Option, none, some}
use Prim.Native.Nat.{ℕ, ◌+◌, ◌*◌, ◌<◌, ◌≤◌}
use native.Mathlib.Nat.{mul-le-mul_left}
use native.Mathlib.Omega.{arith}
use lib.Dec.{eqb, ltb, leb}
use lib.ListN.{length, take}
use lib.Seq.{length-take-le, get_or-take}
use Rattle.rules.specs.Text.{line_length, lines, line_fault, is_digit, byte_at}
use Rattle.rules.specs.Lists.{every}
use Rattle.rules.specs.Refusal.{fine, reason_of, placed, refuse_lowest}
use Rattle.rules.specs.declared.Reason.{Reason}
use Rattle.rules.specs.declared.Refusal.{Refusal}
use Rattle.rules.proofs.ListLaws.{FaultAt, refuse_lowest_none, refuse_lowest_some, some_refuse_lowest}
use Rattle.rules.proofs.TextLaws.{GoodLine, fine_line, line_fine, begun_lines}
use Rattle.lister.specs.Listing.{line_or, listing}
use Rattle.lister.proofs.Rooms.{reading_room}

-- a line's only refusal is 14
fault_is_14 : (w : ℕ) (b : List ℕ) (k : ℕ) → (line_fault w b k ≡ fine → ⊥) → line_fault w b k ≡ 14
unfolding line_fault
fault_is_14 w b k ne =
    of (ltb k 1024 && leb (line_length w * k + line_length w) (length b)
    && every (λ i. is_digit (byte_at w b k i)) (8 * w) && eqb (byte_at w b k (8 * w)) 10) ne
  where
    of : (t : Bool) → (cond t fine 14 ≡ fine → ⊥) → cond t fine 14 ≡ 14
    of true ne = absurd (ne refl)
    of false ne = refl

module _ (w : ℕ) (b : List ℕ) (long : line_length w * 1024 + 1 ≤ length b) where
  abbrev front : List ℕ
  front = take (line_length w * 1024 + 1) b

  length_front : length front ≡ line_length w * 1024 + 1
  length_front = length-take-le (line_length w * 1024 + 1) b long

  -- the lines that may be good lie within the front
  inside : (k : ℕ) → k < 1024 → line_length w * k + line_length w ≤ line_length w * 1024
  inside k h = omega (arith, mul-le-mul_left (line_length w) h)

  good_in_front : (k : ℕ) → GoodLine w b k → GoodLine w front k
  good_in_front k g =
      let in-front = inside k g.allowed in
      record {
        allowed = g.allowed;
        whole = omega (arith, length_front);
        digits = λ i h. rw (get_or-take (line_length w * 1024 + 1) b (line_length w * k + i) 0 (omega arith)) (g.digits i h);
        newline = rw (get_or-take (line_length w * 1024 + 1) b (line_length w * k + 8 * w) 0 (omega arith)) g.newline;
      }

  good_of_front : (k : ℕ) → GoodLine w front k → GoodLine w b k
  good_of_front k g =
      let in-front = inside k g.allowed in
      record {
        allowed = g.allowed;
        whole = omega arith;
        digits = λ i h. rw (get_or-take (line_length w * 1024 + 1) b (line_length w * k + i) 0 (omega arith)) at (g.digits i h);
        newline = rw (get_or-take (line_length w * 1024 + 1) b (line_length w * k + 8 * w) 0 (omega arith)) at g.newline;
      }

  -- line 1,024 is one too many
  late : (c : List ℕ) → line_fault w c 1024 ≡ fine → ⊥
  late c e = omega (arith, (fine_line w c 1024 e).allowed)

  fault_of_front : (r : Refusal) → FaultAt (line_fault w front) (lines w front) r → refuse_lowest (line_fault w b) (lines w b) ≡ some r
  fault_of_front r f =
      let many : 1024 < lines w b = begun_lines w b 1024 (omega arith) in
      let not-later : 1024 < r.place → ⊥ = λ h. late front (f.fine_below 1024 h) in
      let bad : line_fault w b r.place ≡ fine → ⊥ =
      λ e. f.is_fault (line_fine w front r.place (good_in_front r.place (fine_line w b r.place e))) in
      let found = some_refuse_lowest (line_fault w b) (lines w b) r.place (omega (arith, not-later)) bad
      (λ j h. line_fine w b j (good_of_front j (fine_line w front j (f.fine_below j h)))) in
      let reason : reason_of (line_fault w b r.place) ≡ r.reason =
      ap reason_of (fault_is_14 w b r.place bad ∙ sym (fault_is_14 w front r.place f.is_fault)) ∙ sym f.reason_is in
      found ∙ ap (λ (n : Reason). some (placed n r.place)) reason

  pub front_faults : refuse_lowest (line_fault w front) (lines w front) ≡ refuse_lowest (line_fault w b) (lines w b)
  front_faults = of (refuse_lowest (line_fault w front) (lines w front)) refl
    where
      of : (o : Option Refusal) → refuse_lowest (line_fault w front) (lines w front) ≡ o → o ≡ refuse_lowest (line_fault w b) (lines w b)
      of none e =
          absurd (late front (refuse_lowest_none (line_fault w front) (lines w front) e 1024 (begun_lines w front 1024 (omega (arith, length_front)))))
      of (some r) e = sym (fault_of_front r (refuse_lowest_some (line_fault w front) (lines w front) r e))

pub listing_of_front : (b : List ℕ) → 33793 ≤ length b → listing (take 33793 b) ≡ listing b
unfolding listing line_or
listing_of_front b long = of (refuse_lowest (line_fault 4 b) (lines 4 b)) refl
  where
    of : (o : Option Refusal) → refuse_lowest (line_fault 4 b) (lines 4 b) ≡ o → listing (take 33793 b) ≡ listing b
    of none e = absurd (late 4 b long b (refuse_lowest_none (line_fault 4 b) (lines 4 b) e 1024 (begun_lines 4 b 1024 (omega arith))))
    of (some r) e = rw (reading_room b ∙ e, reading_room (take 33793 b) ∙ front_faults 4 b long ∙ e)
