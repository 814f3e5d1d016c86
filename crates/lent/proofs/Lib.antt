-- What the proofs of several functions cite, and what the contracts give.
pub mod Copies
pub mod Determined
