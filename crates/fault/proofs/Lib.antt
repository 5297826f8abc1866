-- The laws of the refusal table, in the order in which they build on each other.
-- checks in order: which of them decides, and what holds where none fails
pub mod ChecksLaws
-- buffers that are written from the front
pub mod BuffersLaws
-- buffers that are filled part by part
pub mod PartsLaws
-- checks of the entries of a list
pub mod EntriesLaws
