-- The order of the refusals before a run, and what the contracts give.
pub mod Order
pub mod Determined
