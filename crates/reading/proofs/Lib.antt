-- Laws that the functions' proofs share, and what the contract gives.
pub mod Folding
pub mod ReadSteps
pub mod Endings
pub mod HasRead
pub mod Determined
