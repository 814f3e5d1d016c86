-- What the proofs of several functions cite, and what the contract gives.
pub mod Statements
pub mod Endings
pub mod Promise
