-- What reading a lent table asks.
pub mod Within
