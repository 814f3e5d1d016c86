-- What the proofs of several functions, here and above, cite.
pub mod Machine
pub mod TowardsZero
pub mod Determined
