-- The laws of saving, in the order in which they build on each other.
-- bytes that are written one after another into a buffer
pub mod WritingLaws
-- the map byte of a gate, and how long its bytes are
pub mod GateLaws
-- the file's parts, and how long they are
pub mod FileLaws
-- what saving says
pub mod OutcomeLaws
-- no file of the plan is shorter
pub mod ShortestLaws
-- the theorems
pub mod SavingTheoremsLaws
