-- Document 01, "Program bits": the program of a plan.
-- what the call leaves in the lent program
pub mod ProgramCalls
-- what its parts store, and what they are lent
pub mod ProgramParts
