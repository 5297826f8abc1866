-- The laws of a plan's files, in the order in which they build on each other.
-- bytes, values and places of items
pub mod ListLaws
-- what reading steps read, and what they give
pub mod ReadingLaws
-- a plan's files are of bytes
pub mod BytesLaws
-- reading a plan's file gives the plan, what is read is such a file, and how long a file can be
pub mod EncodingLaws
-- the figures of a plan that is read
pub mod ReadFiguresLaws
-- table bytes, of a gate and of the gates of a plan
pub mod TableLinesLaws
-- unused places in a plan's files
pub mod UsedLaws
-- where a gate's map byte stands
pub mod OffsetLaws
