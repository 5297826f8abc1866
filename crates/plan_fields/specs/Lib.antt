-- Document 01, "The plan": the steps of reading a plan file, in reading order.
-- reading steps and how one follows another
pub mod Parsing
-- the fields of the file, and a gate
pub mod Fields
-- what the answers of the steps say
pub mod Answers
