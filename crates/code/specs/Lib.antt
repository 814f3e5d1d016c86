-- What the code run answers, for every input, and what an answer says (demand 2).
pub mod CodeRun
pub mod CodeSays
pub mod inside
