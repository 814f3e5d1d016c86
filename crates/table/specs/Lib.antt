-- What `check` answers (Checking), and what its private functions tell each other (inside).
pub mod Checking
pub mod inside
