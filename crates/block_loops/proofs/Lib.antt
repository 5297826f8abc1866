-- That programming on lists gives P's program bits.
-- two lists, one behind the other, filled store by store
pub mod FillingLaws
-- the marks that are left are the sides of the output and the input pairs
pub mod MarkingLaws
-- the bits of a level are those of its input rows, of its halves, and of its output rows
pub mod MappingsLaws
-- the bits of a level and of its halves, stored one after another
pub mod LevelsLaws
