-- How a call of `write_text` or `write_pairs` ends, by the tests that it makes: refused 14, refused 15, or done.
use mathlib.Core.Path.{◌≡◌}
use mathlib.Core.Bool.{Bool, true, false, ◌&&◌, and-false}
use mathlib.Core.List.{List}
use Prim.Native.Nat.{ℕ, ◌+◌, ◌*◌, ◌/◌, ◌%◌, ◌<◌, ◌≤◌, min}
use native.Mathlib.Nat.{div-add-mod, mul-le-mul_left, min-eq_left, min-eq_right}
use native.Mathlib.Omega.{arith}
use borrow.Author.Tests.{lt-ltb, le-ltb, le-leb, lt-leb, eq-eqb, ne_eqb}
use lib.Dec.{eqb, leb}
use lib.ListN.{length}
use lib.Seq.{sets}
use Rattle.rules.specs.Refusal.{refusal, refuse, ◌or_else◌}
use Rattle.rules.specs.Text.{line_length, write_refusal, text_of}
use Rattle.rules.specs.Answer.{ended, unless_refused}
use Rattle.writing.specs.Writing.{writing}
use Rattle.std.specs.Prelude.{Ok, Err}

-- whole frames, and not too many: the test of 14
abbrev fits : ℕ → List ℕ → Bool
fits w ws = eqb (length ws % w) 0 && leb (length ws) (w * 1024)

module _ (w : ℕ) (ws : List ℕ) where
  frames_and_rest : w * (length ws / w) + length ws % w ≡ length ws
  frames_and_rest = div-add-mod (length ws) w

  late_fails : 1024 < length ws / w → 0 < w → fits w ws ≡ false
  late_fails h p =
      rw (lt-leb (length ws) (w * 1024) (omega (arith, frames_and_rest, mul-le-mul_left w h)))
      (and-false (eqb (length ws % w) 0))

  ragged_fails : w * (length ws / w) < length ws → fits w ws ≡ false
  ragged_fails h = rw (ne_eqb (length ws % w) 0 (λ e. omega (arith, frames_and_rest)))

  whole_fits : length ws / w ≤ 1024 → length ws ≤ w * (length ws / w) → fits w ws ≡ true
  whole_fits h l =
      rw (
        eq-eqb (length ws % w) 0 (omega (arith, frames_and_rest)),
        le-leb (length ws) (w * 1024) (omega (arith, mul-le-mul_left w h)),
      )

  module _ (room : List ℕ) where
    -- refused 14 at the place that the test gives
    write_refused : (place : ℕ) → fits w ws ≡ false → min 1024 (length ws / w) ≡ place
        → ended (Err (refusal 14 place)) room ≡ writing w ws room
    unfolding writing unless_refused write_refusal refuse ◌or_else◌
    write_refused place e p = rw (e, p)

    pub write_late : 0 < w → 1024 < length ws / w → ended (Err (refusal 14 1024)) room ≡ writing w ws room
    write_late p h = write_refused 1024 (late_fails h p) (min-eq_left (omega arith))

    pub write_ragged : length ws / w ≤ 1024 → w * (length ws / w) < length ws
        → ended (Err (refusal 14 (length ws / w))) room ≡ writing w ws room
    write_ragged h l = write_refused (length ws / w) (ragged_fails l) (min-eq_right h)

    module _ (h : length ws / w ≤ 1024) (whole : length ws ≤ w * (length ws / w)) where
      pub write_no_room : length room < line_length w * (length ws / w)
          → ended (Err (refusal 15 0)) room ≡ writing w ws room
      unfolding writing unless_refused write_refusal refuse ◌or_else◌
      write_no_room l = rw (whole_fits h whole, lt-ltb (length room) (line_length w * (length ws / w)) l)

      pub write_done : line_length w * (length ws / w) ≤ length room
          → ended (Ok (line_length w * (length ws / w))) (sets room 0 (text_of w ws)) ≡ writing w ws room
      unfolding writing unless_refused write_refusal refuse ◌or_else◌
      write_done l = rw (whole_fits h whole, le-ltb (length room) (line_length w * (length ws / w)) l)
