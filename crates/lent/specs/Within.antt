-- What reading a word of a lent table asks.
use Rattle.std.specs.Prelude.{ℕ, ◌+◌, ◌*◌, ◌<◌, ◌≤◌, List, length}

-- word i of node n can be read
pub record Within (t : List ℕ) (n i : ℕ) : Type 0 where
  pub inside : 4 * n + i < length t
  pub short : length t ≤ 4096
