-- What the crews' runs stand on, once the depot is checked.
use Rattle.std.specs.Prelude.{◌≡◌, List, ℕ, ◌*◌, ◌<◌, ◌≤◌, ℤ, length}
use Rattle.std.proofs.Math.Option.{none}
use Rattle.code.specs.CodeRun.{code_run_refusal}
use Rattle.depot.specs.Depot.{crews, crew}

pub record Ready (t c : List ℕ) (start : ℕ) (stores : List ℤ) (room : List ℕ) : Type 0 where
  pub whole : length stores ≡ 32 * crews stores
  pub few : crews stores ≤ 512
  pub enough : 3 * crews stores ≤ length room
  -- no crew is refused
  pub unrefused : (i : ℕ) → i < crews stores → code_run_refusal t c start (crew stores i) ≡ none
