-- What the private functions of the compiler tell each other. A caller need not read it.
pub mod Writing
