-- The theory of the reader: it reads exactly the texts of the grammar, each in one way, and knows where a text leaves the grammar.
-- what the grammar reads the machine reads, and the other way round; every state can be finished
pub mod tokens
-- the same by bytes; one reading, and the place
pub mod bytes
-- the table of a rule: refusals 1 and 9 only; that it says and does what the rule does
pub mod table
pub mod WorkedTexts
