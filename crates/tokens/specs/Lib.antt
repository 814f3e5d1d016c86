-- The machine on numbers and nodes, by tables; how it stands for the machine on tokens; what the functions on its arrays promise; and the
-- scanner: one token of a text, by what may follow.
pub mod Tables
pub mod Flat
pub mod Stand
pub mod Shape
pub mod Arrays
pub mod Scan
pub mod Promise
pub mod Quick
pub mod Taken
