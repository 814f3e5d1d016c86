-- Demand 2 for compilation: what an answer of `compile`, with the room after it, says of the compilation rules (001, Fig. 5).
use Rattle.std.specs.Prelude.{◌≡◌, List, ℕ, ◌*◌, length, take, drop, Ok, Err}
use Rattle.std.proofs.Math.Option.{none, some}
use Rattle.rules.specs.SGoto.{SCode, U}
use Rattle.rules.specs.Compilation.{Compiles}
use Rattle.rules.specs.Table.{program}
use Rattle.rules.specs.CodeWords.{width, code_of, code_refusal}
use Rattle.rules.specs.declared.Refusal.{Refusal}
use Rattle.rules.specs.declared.Made.{Made}
use Rattle.compiler.specs.Compiling.{compile_refusal}
use Rattle.rules.specs.Answer.{Answer}

-- the words that were written, m.instructions frames from the front on
abbrev pub written : Made → List ℕ → List ℕ
written m after = take (width * m.instructions) after

-- they are, instruction by instruction, what the rules prescribe, and accepted code; the other words of the room are as they were
pub record Prescribed (t : List ℕ) (start : ℕ) (room : List ℕ) (m : Made) (after : List ℕ) : Type 0 where
  pub code : SCode
  pub compiles : Compiles (program t) start code m.end
  pub words : code_of (written m after) ≡ U code
  pub accepted : code_refusal t (written m after) ≡ none
  pub rest : drop (width * m.instructions) after ≡ drop (width * m.instructions) room
  pub same_length : length after ≡ length room

-- of a table, a start label and a room
pub data CompileSays (t : List ℕ) (start : ℕ) (room : List ℕ) : Answer Made → List ℕ → Type 0 where
  -- a refusal is the first of 1 to 9, 11 and 12 that the input earns, and leaves the room alone
  refused : (r : Refusal) → compile_refusal t start (length room) ≡ some r → CompileSays t start room (Err r) room
  done : {m : Made} {after : List ℕ} → compile_refusal t start (length room) ≡ none → Prescribed t start room m after
      → CompileSays t start room (Ok m) after
