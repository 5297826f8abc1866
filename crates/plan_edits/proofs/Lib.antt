-- The laws of the edits, in the order in which they build on each other.
-- the checks as bounds, and the uses that each edit leaves
pub mod EditsLaws
-- the theorems of the edits
pub mod EditTheoremsLaws
