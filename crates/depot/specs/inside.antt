-- What the private functions of a depot tell each other. A caller need not read it.
pub mod Ready
