-- What writing text answers, and what it leaves in the lent room, for every input.
pub mod Writing
pub mod inside
