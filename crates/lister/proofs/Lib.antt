-- How each call ends, what it leaves to list, and what a listing is without rooms and of long input.
pub mod Endings
pub mod Determined
pub mod Rooms
pub mod Front
