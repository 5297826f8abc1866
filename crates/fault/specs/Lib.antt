-- Document 01, "Refusal table".
-- the number of each word and of each answer
pub mod Number
-- the order of checks: the first failing one decides
pub mod Checks
-- lent buffers after a call
pub mod Buffers
