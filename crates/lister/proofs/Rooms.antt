-- The program's own rooms suffice: of reading it shows refusal 14 alone, and of compiling 1 to 9 alone, so 11, 12 and 15 never show.
use mathlib.Core.Path.{◌≡◌, refl}
use mathlib.Core.List.{List}
use mathlib.Core.Option.{Option, none, some}
use Prim.Native.Nat.{ℕ, ◌+◌, ◌*◌, ◌<◌, ◌≤◌}
use native.Mathlib.Omega.{arith}
use borrow.Author.Tests.{le-ltb}
use lib.Dec.{ltb}
use Rattle.rules.specs.Compilation.{size, compile}
use Rattle.rules.specs.CodeWords.{width, words_of}
use Rattle.rules.specs.Table.{nodes, program, table_refusal}
use Rattle.rules.specs.Text.{lines, line_fault, read_refusal, text_of, words_of_text}
use Rattle.rules.specs.Refusal.{refuse, refuse_lowest, ◌or_else◌}
use Rattle.rules.specs.declared.Refusal.{Refusal}
use Rattle.rules.proofs.TextLaws.{accepted_text}
use Rattle.rules.proofs.TableLaws.{Facts, accepted_facts}
use Rattle.rules.proofs.Bound.{few_instructions}
use Rattle.compiler.specs.Compiling.{compile_refusal}
use Rattle.lister.specs.Listing.{line_or, listing_of, listing}

-- a later refusal that is never given
or_else_never : (a b : Option Refusal) → (a ≡ none → b ≡ none) → (a or_else b) ≡ a
unfolding ◌or_else◌
or_else_never (some r) b h = refl
or_else_never none b h = h refl

pub reading_room : (b : List ℕ) → read_refusal 4 b 4096 ≡ refuse_lowest (line_fault 4 b) (lines 4 b)
unfolding read_refusal refuse
reading_room b =
    or_else_never _ _ (λ e. let good = accepted_text 4 b e in rw (le-ltb 4096 (4 * lines 4 b) (omega (arith, good.few))))

-- from any label that leaves 1,024 after it
pub compiling_room : (t : List ℕ) (start : ℕ) → start + 1024 ≤ 65535 → compile_refusal t start (width * 1024) ≡ table_refusal t
unfolding compile_refusal refuse ◌or_else◌
compiling_room t start low = or_else_never _ _ (λ e. fits (accepted_facts t e))
  where
    fits : Facts t → (refuse (ltb 65535 start) 11 0 or_else refuse (ltb 65535 (start + size (program t))) 11 0
        or_else refuse (ltb (width * 1024) (width * size (program t))) 12 0) ≡ none
    fits f =
        let few : size (program t) < nodes t = few_instructions t f in
        rw (
          le-ltb 65535 start (omega arith),
          le-ltb 65535 (start + size (program t)) (omega (arith, f.few)),
          le-ltb (width * 1024) (width * size (program t)) (omega (arith, f.few)),
        )

-- the listing, without rooms
pub listing_is : (b : List ℕ)
    → listing b ≡ line_or (refuse_lowest (line_fault 4 b) (lines 4 b))
    (line_or (table_refusal (words_of_text 4 b)) (text_of width (words_of (compile (program (words_of_text 4 b)) 1))))
unfolding listing listing_of
listing_is b = rw (reading_room b, compiling_room (words_of_text 4 b) 1 (omega arith))
