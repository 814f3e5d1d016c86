-- The theory of the reader's own arrays.
pub mod FormLaws
pub mod HoldLaws
pub mod MakeLaws
pub mod RowLaws
pub mod FrameLaws
pub mod DescentLaws
pub mod SeekLaws
pub mod ActLaws
pub mod TurnLaws
pub mod EnterLaws
pub mod ReadLaws
pub mod EndLaws
pub mod PhraseLaws
pub mod Endings
-- and that its contract admits one answer
pub mod Determined
