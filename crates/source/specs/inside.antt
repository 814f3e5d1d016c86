-- What the private functions of the source run tell each other. A caller need not read it.
pub mod Ran
