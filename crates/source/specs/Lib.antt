-- What the source run answers, for every input, and what an answer says (demand 2).
pub mod SourceRun
pub mod SourceSays
pub mod inside
