-- How each call ends, that the contract of `write_table` admits one end, and what `listing` makes of what `typed` writes.
pub mod Endings
pub mod Determined
pub mod Narrow
pub mod Listing
