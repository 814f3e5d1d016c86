-- Laws that the functions' proofs share, and what the contracts give.
pub mod Tables
pub mod WriteSteps
pub mod Endings
pub mod HasWritten
pub mod Determined
