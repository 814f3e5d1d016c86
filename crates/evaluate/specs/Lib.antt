-- What the evaluators ask.
pub mod Ready
pub mod inside
