-- What the listing of a text is.
pub mod Listing
