-- What a bit of a word is.
pub mod Bit
