-- Document 01, the block library, programming P: the definitions of the calls.
-- what the calls leave in the program
pub mod ProgramCalls
-- the bits of P(4) as one number
pub mod Four
