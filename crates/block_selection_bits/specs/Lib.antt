-- Document 01, the block library, programming S: the definitions of the calls.
-- what the calls leave in the program
pub mod ProgramCalls
-- what the inner calls find and leave in their arrays
pub mod Arrays
