-- What reading a typed rule answers, and what it leaves in the lent room, for every input.
pub mod ReadingRule
pub mod inside
