-- What an evaluator asks: a node of an accepted table, of the class it evaluates. (A store is an array of 32 values by its type.)
use Rattle.std.specs.Prelude.{◌≡◌, ℕ, ◌<◌, List}
use Rattle.rules.specs.Table.{Class, Accepted, nodes, row_at}

pub record Ready (t : List ℕ) (n : ℕ) (c : Class) : Type 0 where
  pub accepted : Accepted t
  pub inside : n < nodes t
  pub class : (row_at t n).class ≡ c
