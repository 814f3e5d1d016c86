-- What the proofs of several functions cite, and what the contract gives.
pub mod Checks
pub mod Refusals
pub mod Crews
pub mod Promise
