-- What the crate's private functions tell each other. A caller need not read it.
pub mod Nodes
pub mod Turns
