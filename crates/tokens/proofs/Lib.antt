-- The machine on numbers and nodes does what the machine on tokens does; and the scanner finds the token that the machine on bytes takes.
pub mod Steps
pub mod ShapeLaws
pub mod NodeLaws
pub mod ArrayLaws
pub mod MoveLaws
pub mod Halts
pub mod Entries
pub mod Common
pub mod BestLaws
pub mod Relations
pub mod FixedScan
pub mod DigitScan
pub mod Results
pub mod CodeLaws
pub mod SpelledLaws
pub mod QuickLaws
pub mod TakenLaws
