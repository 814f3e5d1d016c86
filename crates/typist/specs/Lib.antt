-- What the table text of a typed rule is.
pub mod TableText
