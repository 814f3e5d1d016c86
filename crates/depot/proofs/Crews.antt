-- The crews so far: after i crews the stores begin with the stores that these crews left, and the room with their words; the rest of both is
-- as it was.
use mathlib.Core.Path.{◌≡◌, refl, ap, ◌∙◌}
use mathlib.Core.List.{List, ◌++◌}
use mathlib.Core.Option.{none}
use Prim.Native.Nat.{ℕ, ◌+◌, ◌*◌, ◌<◌, ◌≤◌}
use native.Mathlib.Omega.{arith}
use lib.IntN.{ℤ}
use lib.ListN.{length, take, drop}
use lib.Seq.{sets, length-sets}
use Rattle.rules.specs.Expression.{Store}
use Rattle.rules.specs.Lists.{joined}
use Rattle.rules.specs.Goto as goto
use Rattle.rules.specs.Goto.{Halted, out, run}
use Rattle.rules.specs.Table.{meaning}
use Rattle.rules.specs.CodeWords.{code_of}
use Rattle.rules.specs.Answer.{ended, Answer}
use Rattle.rules.proofs.EndedLaws.{answer_is, after_is, ends_unrefused}
use Rattle.rules.proofs.ListLaws.{length_joined, drop_sets, sets_whole, sets_part, sets_joined}
use Rattle.code.specs.CodeRun.{code_run_refusal, code_end, code_run}
use Rattle.code.proofs.Along.{after_length}
use Rattle.depot.specs.Depot.{crews, crew, crew_words, lent, crew_run, crews_run}
use Rattle.depot.specs.inside.Ready.{Ready}
use Rattle.depot.proofs.Refusals.{crew_length}
use Rattle.rules.specs.declared.End.{End}
use Rattle.rules.specs.declared.Halt.{Halt}

-- a run that is not refused has three words
end_words : (n : ℕ) (h : Halted) → length (crew_words (code_end n h).answer) ≡ 3
unfolding code_end crew_words
end_words n (goto.finished ℓ σ left) = refl
end_words n (out ℓ σ) = refl

module _ (t c : List ℕ) (start : ℕ) (stores₀ : List ℤ) (fuel : ℕ) where
  -- what crew i leaves: its store, and its words
  abbrev pub left : ℕ → Store
  left i = (crew_run t c start stores₀ fuel i).after

  abbrev pub told : ℕ → List ℕ
  told i = crew_words (crew_run t c start stores₀ fuel i).answer

  module _ (room₀ : List ℕ) where
    pub record Gone (i : ℕ) (stores : List ℤ) (room : List ℕ) : Type 0 where
      pub within : i ≤ crews stores₀
      pub stores_are : stores ≡ sets stores₀ 0 (joined left i)
      pub room_is : room ≡ sets room₀ 0 (joined told i)

    pub none_gone : Gone 0 stores₀ room₀
    unfolding joined
    none_gone = record { within = omega arith; stores_are = refl; room_is = refl }

    module _ (ok : Ready t c start stores₀ room₀) where
      pub left_length : (i : ℕ) → i < crews stores₀ → length (left i) ≡ 32
      left_length i h = after_length t c start (crew stores₀ i) fuel ∙ crew_length stores₀ i h

      pub told_length : (i : ℕ) → i < crews stores₀ → length (told i) ≡ 3
      unfolding code_run
      told_length i h =
          rw (ends_unrefused _ (crew stores₀ i) (code_end fuel (run (meaning t) (code_of c) fuel start (crew stores₀ i)))
          (ok.unrefused i h))
          (end_words fuel (run (meaning t) (code_of c) fuel start (crew stores₀ i)))

      pub stores_length : (i : ℕ) → i ≤ crews stores₀ → length (joined left i) ≡ 32 * i
      stores_length i h = length_joined left 32 i (λ k l. left_length k (omega arith))

      pub room_length : (i : ℕ) → i ≤ crews stores₀ → length (joined told i) ≡ 3 * i
      room_length i h = length_joined told 3 i (λ k l. told_length k (omega arith))

      module _ {i : ℕ} {stores : List ℤ} {room : List ℕ} (gone : Gone i stores room) where
        pub same_stores : length stores ≡ length stores₀
        same_stores = rw gone.stores_are (length-sets stores₀ 0 (joined left i))

        pub same_room : length room ≡ length room₀
        same_room = rw gone.room_is (length-sets room₀ 0 (joined told i))

        -- the next crew's part is as it was lent
        next_crew : crew stores i ≡ crew stores₀ i
        next_crew =
            let front = stores_length i gone.within in
            rw (gone.stores_are, ← front)
            (ap (take 32) (drop_sets (joined left i) stores₀ (omega (arith, front, ok.whole, gone.within))))

        -- it has n values, from `from` on
        module _ (more : i < crews stores₀) {from n : ℕ} (starts : from ≡ 32 * i) (long : n ≡ 32) where
          pub next_unrefused : code_run_refusal t c start (take n (drop from stores)) ≡ none
          next_unrefused = rw (starts, long, next_crew) (ok.unrefused i more)

          -- crew i has run on its part, and its words are written
          pub one_more : {at m : ℕ} {r : Answer (End Halt)} {σ : Store} → at ≡ 3 * i → m ≡ 3
              → ended r σ ≡ code_run t c start (take n (drop from stores)) fuel
              → Gone (i + 1) (take from stores ++ (σ ++ drop n (drop from stores))) (take at room ++ (crew_words r ++ drop m (drop at room)))
          one_more {at} {m} {r} {σ} row three met = rw (starts, row, long, three) (go (rw (starts, long, next_crew) at met))
            where
              -- one block more
              put : {A : Type 0} (f : ℕ → List A) (l : List A) (m : ℕ) → length (joined f i) ≡ m
                  → sets (sets l 0 (joined f i)) m (f i) ≡ sets l 0 (joined f (i + 1))
              put f l m front = ap (λ (j : ℕ). sets (sets l 0 (joined f i)) j (f i)) (omega arith) ∙ sets_joined f l 0 m i front

              go : {r : Answer (End Halt)} {σ : Store} → ended r σ ≡ code_run t c start (crew stores₀ i) fuel
                  → Gone (i + 1) (take (32 * i) stores ++ (σ ++ drop 32 (drop (32 * i) stores)))
                  (take (3 * i) room ++ (crew_words r ++ drop 3 (drop (3 * i) room)))
              go {r} {σ} run =
                  let values : length σ ≡ 32 = rw (after_is run) (left_length i more) in
                  let fits : 32 * i + 32 ≤ length stores = omega (arith, same_stores, ok.whole) in
                  let words : length (crew_words r) ≡ 3 = rw (answer_is run) (told_length i more) in
                  let enough : 3 * i + 3 ≤ length room = omega (arith, same_room, ok.enough) in
                  record {
                    within = omega arith;
                    stores_are = sets_part σ stores (32 * i) 32 values fits
                        ∙ rw (gone.stores_are, after_is run) (put left stores₀ (32 * i) (stores_length i gone.within));
                    room_is = sets_part (crew_words r) room (3 * i) 3 words enough
                        ∙ rw (gone.room_is, answer_is run) (put told room₀ (3 * i) (room_length i gone.within));
                  }

        -- all have gone
        pub all_gone : crews stores₀ ≤ i → lent stores room ≡ crews_run t c start stores₀ fuel room₀
        unfolding crews_run
        all_gone h =
            let last : i ≡ crews stores₀ = omega (arith, gone.within) in
            let filled : length (joined left i) ≡ length stores₀ = stores_length i gone.within ∙ omega (arith, ok.whole) in
            rw (gone.stores_are, gone.room_is, sets_whole (joined left i) stores₀ filled, last) refl
