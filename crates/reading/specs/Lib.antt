-- What reading text answers, and what it leaves in the lent room, for every input.
pub mod Reading
pub mod inside
