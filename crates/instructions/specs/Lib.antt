-- What is refused before a run of code.
pub mod Admission
