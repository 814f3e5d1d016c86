-- The worked runs of 01 that are marked P, as theorems about the definitions: one table of what is asked and what the paper answers, and
-- one statement over it, computed. Assumes nothing.
use mathlib.Core.Path.{◌≡◌, refl}
use Prim.Native.Nat.{ℕ, ◌+◌, ◌-◌}
use mathlib.Core.List.{List, [], ◌∷◌, ◌++◌, map}
use mathlib.Core.Option.{none, some}
use lib.IntN.{ℤ, pos, negsuc}
use lib.ListN.{replicate}
use Rattle.rules.specs.Lists.{fetch, lowest, joined, below}
use Rattle.rules.specs.Value.{wrap, sum, difference, product, quotient, remainder, is_equal, is_at_most, is_less}
use Rattle.rules.specs.Expression.{Store, apply, holds, value_in}
use Rattle.rules.specs.While.{and_then, spend, passes, exec, Outcome, done, stop}
use Rattle.rules.specs.Goto.{Halted, finished, out, next_label, next_store, run}
use Rattle.rules.specs.Compilation.{size, compile}
use Rattle.rules.specs.Refusal.{refuse, refuse_lowest, ◌or_else◌}
use Rattle.rules.specs.Table.{kind_of, row_of, tree_by, tree_at, meaning, program, whole_table, word_fault, node_fault, child_in, children, occurs, once_fault, deepest, depth_at, table_refusal}
use Rattle.rules.specs.CodeWords.{instr_of, code_of, frame_of, words_of, whole_code, is_node, fields_fit, rises, code_fault, code_refusal}

pub data Told : Type 0 where
  -- the code's words and the end label
  code : List ℕ → ℕ → Told
  -- at a label, after so many steps, with all values of the store
  finished_at out_of_fuel_at : ℕ → ℕ → Store → Told
  -- the same of a source run
  finished_in out_of_fuel_in : ℕ → Store → Told
  value : ℤ → Told
  refused : Told

frame : ℕ → ℕ → ℕ → ℕ → List ℕ
frame k p q r = k ∷ p ∷ q ∷ r ∷ []

-- a store with v0 and v1, else 0
store : ℤ → ℤ → Store
store v0 v1 = v0 ∷ v1 ∷ replicate 30 (pos 0)

compiled : List ℕ → ℕ → Told
compiled t ℓ = elim (table_refusal t) [ some r ↦ refused | none ↦ code (words_of (compile (program t) ℓ)) (ℓ + size (program t)) ]

halted : ℕ → Halted → Told
halted n (finished ℓ σ left) = finished_at ℓ (n - left) σ
halted n (out ℓ σ) = out_of_fuel_at ℓ n σ

ended : ℕ → Outcome → Told
ended n (done σ left) = finished_in (n - left) σ
ended n (stop σ) = out_of_fuel_in n σ

ran : List ℕ → List ℕ → ℕ → Store → ℕ → Told
ran t c ℓ σ n = elim (table_refusal t or_else code_refusal t c) [ some r ↦ refused | none ↦ halted n (run (meaning t) (code_of c) n ℓ σ) ]

source_ran : List ℕ → Store → ℕ → Told
source_ran t σ n = elim (table_refusal t) [ some r ↦ refused | none ↦ ended n (exec (meaning t) (program t) n σ) ]

skips : List ℕ
skips = frame 32 0 0 0

two_skips : List ℕ
two_skips = frame 32 0 0 0 ++ frame 32 0 0 0 ++ frame 34 0 1 0

-- while 0 < v0 do (v0 := v0 - 60; v1 := v1 + 1)
listing : List ℕ
listing =
    frame 1 0 0 0 ++ frame 2 0 0 0 ++ frame 20 0 1 0 ++ frame 2 0 0 0 ++ frame 1 60 0 0 ++ frame 4 3 4 0 ++ frame 33 0 5 0
    ++ frame 2 1 0 0 ++ frame 1 1 0 0 ++ frame 3 7 8 0 ++ frame 33 1 9 0 ++ frame 34 6 10 0 ++ frame 36 2 11 0

listing_code : List ℕ
listing_code = frame 1 3 2 5 ++ frame 2 1 0 5 ++ frame 3 1 1 9 ++ frame 4 2 0 1

-- if v0 = 0 then skip else v1 := 1
empty_then : List ℕ
empty_then = frame 2 0 0 0 ++ frame 1 0 0 0 ++ frame 18 0 1 0 ++ frame 32 0 0 0 ++ frame 1 1 0 0 ++ frame 33 1 4 0 ++ frame 35 2 3 5

empty_then_code : List ℕ
empty_then_code = frame 10 3 2 12 ++ frame 11 2 0 13 ++ frame 12 1 1 4

-- if 0 < v0 then v1 := 1 else skip
empty_else : List ℕ
empty_else = frame 1 0 0 0 ++ frame 2 0 0 0 ++ frame 20 0 1 0 ++ frame 1 1 0 0 ++ frame 33 1 3 0 ++ frame 32 0 0 0 ++ frame 35 2 4 5

empty_else_code : List ℕ
empty_else_code = frame 10 3 2 13 ++ frame 11 1 1 3 ++ frame 12 2 0 13

infix 4 ◌gives◌
pub record Run : Type 0 where
  pub asked : Told
  pub answer : Told

◌gives◌ : Told → Told → Run
◌gives◌ asked answer = record { asked = asked; answer = answer }

pub cases : List Run
cases =
    -- skip at 7: no instructions, end 7; fuel 0 finishes at 7 in 0 steps
    (compiled skips 7 gives code [] 7)
    ∷ (ran skips [] 7 (store (pos 0) (pos 0)) 0 gives finished_at 7 0 (store (pos 0) (pos 0)))
    -- skip; skip: no instructions
    ∷ (compiled two_skips 7 gives code [] 7)
    -- the listing; from v0 = 150, v1 = 0, fuel 13: finished at 5, 13 steps, v0 = -30, v1 = 3
    ∷ (compiled listing 1 gives code listing_code 5)
    ∷ (ran listing listing_code 1 (store (pos 150) (pos 0)) 13 gives finished_at 5 13 (store (negsuc 29) (pos 3)))
    ∷ (source_ran listing (store (pos 150) (pos 0)) 13 gives finished_in 13 (store (negsuc 29) (pos 3)))
    -- the same, fuel 12: out of fuel at 1, same store
    ∷ (ran listing listing_code 1 (store (pos 150) (pos 0)) 12 gives out_of_fuel_at 1 12 (store (negsuc 29) (pos 3)))
    ∷ (source_ran listing (store (pos 150) (pos 0)) 12 gives out_of_fuel_in 12 (store (negsuc 29) (pos 3)))
    -- the same from v0 = 0: 1 step with fuel 1; out of fuel with fuel 0
    ∷ (ran listing listing_code 1 (store (pos 0) (pos 0)) 1 gives finished_at 5 1 (store (pos 0) (pos 0)))
    ∷ (ran listing listing_code 1 (store (pos 0) (pos 0)) 0 gives out_of_fuel_at 1 0 (store (pos 0) (pos 0)))
    ∷ (source_ran listing (store (pos 0) (pos 0)) 1 gives finished_in 1 (store (pos 0) (pos 0)))
    ∷ (source_ran listing (store (pos 0) (pos 0)) 0 gives out_of_fuel_in 0 (store (pos 0) (pos 0)))
    -- an empty then branch at 10: ifnot to 12, goto 13, assign at 12, end 13; 2 steps either way
    ∷ (compiled empty_then 10 gives code empty_then_code 13)
    ∷ (ran empty_then empty_then_code 10 (store (pos 0) (pos 0)) 2 gives finished_at 13 2 (store (pos 0) (pos 0)))
    ∷ (ran empty_then empty_then_code 10 (store (pos 5) (pos 0)) 2 gives finished_at 13 2 (store (pos 5) (pos 1)))
    -- an empty else branch at 10: ifnot to 13, assign, goto 13, end 13; 3 steps from v0 = 5, 1 from 0
    ∷ (compiled empty_else 10 gives code empty_else_code 13)
    ∷ (ran empty_else empty_else_code 10 (store (pos 5) (pos 0)) 3 gives finished_at 13 3 (store (pos 5) (pos 1)))
    ∷ (ran empty_else empty_else_code 10 (store (pos 0) (pos 0)) 1 gives finished_at 13 1 (store (pos 0) (pos 0)))
    -- "4: goto 4", begun at 4, fuel 9: out of fuel at 4, 9 steps
    ∷ (ran skips (frame 4 2 0 4) 4 (store (pos 0) (pos 0)) 9 gives out_of_fuel_at 4 9 (store (pos 0) (pos 0)))
    -- 2147483647 + 1 = -2147483648; 65536 * 65536 = 0; 7 by 0 is 0, remainder 7; and as A2 has it,
    -- -30 by 60 is -1, remainder 30; 30 by -60 is -1, remainder -30
    ∷ (value (sum (pos 2147483647) (pos 1)) gives value (negsuc 2147483647))
    ∷ (value (product (pos 65536) (pos 65536)) gives value (pos 0))
    ∷ (value (quotient (pos 7) (pos 0)) gives value (pos 0))
    ∷ (value (remainder (pos 7) (pos 0)) gives value (pos 7))
    ∷ (value (quotient (negsuc 29) (pos 60)) gives value (negsuc 0))
    ∷ (value (remainder (negsuc 29) (pos 60)) gives value (pos 30))
    ∷ (value (quotient (pos 30) (negsuc 59)) gives value (negsuc 0))
    ∷ (value (remainder (pos 30) (negsuc 59)) gives value (negsuc 29))
    ∷ []

pub worked_runs : map (λ (r : Run). r.asked) cases ≡ map (λ (r : Run). r.answer) cases
unfolding cases compiled halted ended ran source_ran frame store skips two_skips listing listing_code empty_then
    empty_then_code empty_else empty_else_code ◌gives◌ fetch lowest joined below wrap sum difference product quotient
    remainder is_equal is_at_most is_less apply holds value_in and_then spend passes exec next_label next_store run size
    compile refuse refuse_lowest ◌or_else◌ kind_of row_of tree_by tree_at meaning program whole_table word_fault node_fault
    child_in children occurs once_fault deepest depth_at table_refusal instr_of code_of frame_of words_of whole_code is_node
    fields_fit rises code_fault code_refusal
worked_runs = refl
