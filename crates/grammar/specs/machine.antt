-- The machine that reads.
pub mod Reader
pub mod Bytes
pub mod Answer
