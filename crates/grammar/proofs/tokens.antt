-- The machine on tokens.
pub mod Spans
pub mod Choices
pub mod Runs
pub mod Steps
pub mod Grows
pub mod Complete
pub mod Opened
pub mod Sound
pub mod Finish
pub mod Followers
pub mod Height
