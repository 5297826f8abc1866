-- a run of bits gives bits, one for each wire
pub mod RunningLaws
-- the start of a run on the work buffer
pub mod WorkLaws
-- what a row chooses and makes
pub mod RowLaws
-- the run on the work buffer, row by row
pub mod RunLaws
-- where no check fails: what the calls need, and what the outputs are
pub mod RunCallsLaws
-- the series of a well-formed table, an interval more on the work buffer
pub mod RunSeriesLaws
-- its theorems
pub mod RunTheoremsLaws
