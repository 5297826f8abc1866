-- Document 01, "The plan" and the plan faults of its "Refusal table": a plan in memory, in reading order.
-- the record in memory and its limits
pub mod Record
-- what a count, a map byte, an operand, a table and an output may be
pub mod Rules
-- the faults of a plan in memory, and when it is accepted
pub mod Faults
-- what is proved of its figures
pub mod TallyTheorems
-- counting uses in an array
pub mod Counting
