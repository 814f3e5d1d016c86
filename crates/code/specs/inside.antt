-- What the private functions of the code run tell each other. A caller need not read it.
pub mod Running
