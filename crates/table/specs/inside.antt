-- What the private functions of this crate tell each other. A caller of `check` need not read it.
pub mod Sets
pub mod Rows
pub mod Steps
