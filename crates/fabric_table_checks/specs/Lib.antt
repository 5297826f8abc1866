-- Document 01, "Malformed": check 13 of a run.
-- when a table is malformed
pub mod TableFault
-- wires and program bits, counted through the rows
pub mod Counting
-- what the check of a table answers, and what its parts need and answer
pub mod Checking
