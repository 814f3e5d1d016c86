-- The table of a rule.
pub mod Stands
pub mod TypedTable
pub mod Kinds
pub mod TypedNodes
pub mod TypedRefusals
pub mod ReadBack
pub mod Follows
pub mod Answering
