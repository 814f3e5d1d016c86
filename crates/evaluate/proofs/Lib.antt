-- What the proofs of several functions cite, and what the contracts give.
pub mod Operators
pub mod Nodes
pub mod Determined
