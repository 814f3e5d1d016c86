-- What the private functions of the evaluators tell each other. A caller need not read it.
pub mod Operands
