-- What the private functions of the boundary tell each other. A caller need not read it.
pub mod Told
