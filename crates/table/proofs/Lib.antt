-- What the answer of `check` tells, that its contract admits one, and the laws behind the proofs of its parts.
pub mod Answer
pub mod Determined
pub mod LowBit
pub mod RowLaws
pub mod SetLaws
pub mod MarkLaws
pub mod WordLaws
pub mod DepthLaws
pub mod AddLaws
pub mod LevelLaws
pub mod CheckLaws
