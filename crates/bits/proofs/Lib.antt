-- The laws of a word's bits, and that the contracts admit one answer.
pub mod BitLaws
pub mod Determined
