-- What the proofs of several functions cite, and what the contract gives.
pub mod Checks
pub mod Places
pub mod Steps
pub mod Along
pub mod Promise
