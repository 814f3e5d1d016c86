-- A4 as definitions. Who believes these seven files, and a contract that names `Answers`, need open no other. Evaluation says what a
-- rule does once it is read.
pub mod Rule
pub mod Token
pub mod Grammar
pub mod Spelling
pub mod Layout
pub mod Written
pub mod Typed
pub mod Evaluation
-- the machine that reads: by tokens, by bytes, and its answer
pub mod machine
