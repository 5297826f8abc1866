-- stores of one list into another
pub mod CopyingLaws
-- how long states and output rows are, composition, and equal steps
pub mod SeriesLaws
