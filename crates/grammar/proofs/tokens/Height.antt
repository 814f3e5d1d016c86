-- How many phrases can be open at once: 6 * 256 + 6 frames hold them. The earlier statements of open rows are not counted: each has
-- written a node of its own, so that 1,024 more hold them for as long as the table can be accepted.
use Prim.Native.Nat.{ℕ, suc, ◌+◌, ◌*◌, ◌≤◌}
use native.Mathlib.Nat.{le_refl}
use native.Mathlib.Omega.{arith}
use Rattle.grammar.specs.machine.Reader.{Phrase, Open, whole, follow, then_branch, else_branch, loop_body}
use Rattle.grammar.specs.machine.Reader.{in_row, if_test, while_test, squared, choose_test, first_part}
use Rattle.grammar.specs.machine.Reader.{next_part, plain, negated, assigning, left_side, right_side, bracketed}
use Rattle.grammar.specs.machine.Reader.{choose_first, choose_second, first_term, next_term, first_factor}
use Rattle.grammar.specs.machine.Reader.{next_factor}

-- the open phrases, the earlier statements of a row not counted
unfoldable pub height : {limit : ℕ} {h : Phrase} {n : ℕ} → Open limit h n → ℕ
height whole = 1
height (follow s K) = height K
height (then_branch b K) = suc (height K)
height (else_branch b p K) = suc (height K)
height (loop_body b K) = suc (height K)
height (in_row K) = suc (height K)
height (if_test K) = suc (height K)
height (while_test K) = suc (height K)
height (squared K) = suc (height K)
height (choose_test K) = suc (height K)
height (first_part K) = suc (height K)
height (next_part b K) = suc (height K)
height (plain K) = suc (height K)
height (negated K) = suc (height K)
height (assigning x K) = suc (height K)
height (left_side K) = suc (height K)
height (right_side o a K) = suc (height K)
height (bracketed K) = suc (height K)
height (choose_first b K) = suc (height K)
height (choose_second b x K) = suc (height K)
height (first_term K) = suc (height K)
height (next_term o a K) = suc (height K)
height (first_factor K) = suc (height K)
height (next_factor o a K) = suc (height K)

-- how many frames a phrase has on its own level at most
unfoldable pub rank : Phrase → ℕ
rank Phrase.row = 1
rank Phrase.statement = 2
rank Phrase.ands = 1
rank Phrase.part = 2
rank Phrase.test = 3
rank Phrase.sum = 4
rank Phrase.term = 5
rank Phrase.factor = 6

module _ {limit : ℕ} where
  pub levels_within : {h : Phrase} {n : ℕ} (K : Open limit h n) → n ≤ limit
  levels_within whole = le_refl limit
  levels_within (follow s K) = let m = levels_within K in omega arith
  levels_within (then_branch b K) = let m = levels_within K in omega arith
  levels_within (else_branch b p K) = let m = levels_within K in omega arith
  levels_within (loop_body b K) = let m = levels_within K in omega arith
  levels_within (in_row K) = let m = levels_within K in omega arith
  levels_within (if_test K) = let m = levels_within K in omega arith
  levels_within (while_test K) = let m = levels_within K in omega arith
  levels_within (squared K) = let m = levels_within K in omega arith
  levels_within (choose_test K) = let m = levels_within K in omega arith
  levels_within (first_part K) = let m = levels_within K in omega arith
  levels_within (next_part b K) = let m = levels_within K in omega arith
  levels_within (plain K) = let m = levels_within K in omega arith
  levels_within (negated K) = let m = levels_within K in omega arith
  levels_within (assigning x K) = let m = levels_within K in omega arith
  levels_within (left_side K) = let m = levels_within K in omega arith
  levels_within (right_side o a K) = let m = levels_within K in omega arith
  levels_within (bracketed K) = let m = levels_within K in omega arith
  levels_within (choose_first b K) = let m = levels_within K in omega arith
  levels_within (choose_second b x K) = let m = levels_within K in omega arith
  levels_within (first_term K) = let m = levels_within K in omega arith
  levels_within (next_term o a K) = let m = levels_within K in omega arith
  levels_within (first_factor K) = let m = levels_within K in omega arith
  levels_within (next_factor o a K) = let m = levels_within K in omega arith

  -- 6 frames for each level that is used
  pub height_bound : {h : Phrase} {n : ℕ} (K : Open limit h n) → height K + 6 * n ≤ 6 * limit + rank h
  unfolding height rank
  height_bound whole = omega arith
  height_bound (follow s K) = let m = height_bound K in omega arith
  height_bound (then_branch b K) = let m = height_bound K in omega arith
  height_bound (else_branch b p K) = let m = height_bound K in omega arith
  height_bound (loop_body b K) = let m = height_bound K in omega arith
  height_bound (in_row K) = let m = height_bound K in omega arith
  height_bound (if_test K) = let m = height_bound K in omega arith
  height_bound (while_test K) = let m = height_bound K in omega arith
  height_bound (squared K) = let m = height_bound K in omega arith
  height_bound (choose_test K) = let m = height_bound K in omega arith
  height_bound (first_part K) = let m = height_bound K in omega arith
  height_bound (next_part b K) = let m = height_bound K in omega arith
  height_bound (plain K) = let m = height_bound K in omega arith
  height_bound (negated K) = let m = height_bound K in omega arith
  height_bound (assigning x K) = let m = height_bound K in omega arith
  height_bound (left_side K) = let m = height_bound K in omega arith
  height_bound (right_side o a K) = let m = height_bound K in omega arith
  height_bound (bracketed K) = let m = height_bound K in omega arith
  height_bound (choose_first b K) = let m = height_bound K in omega arith
  height_bound (choose_second b x K) = let m = height_bound K in omega arith
  height_bound (first_term K) = let m = height_bound K in omega arith
  height_bound (next_term o a K) = let m = height_bound K in omega arith
  height_bound (first_factor K) = let m = height_bound K in omega arith
  height_bound (next_factor o a K) = let m = height_bound K in omega arith
