-- Document 01, "Run", and document 02's series of a run.
-- every wire's bit, and the outputs'
pub mod Running
-- what the call leaves in the lent buffers
pub mod RunCalls
-- what its series leaves there
pub mod RunSeries
-- what holds of that: composition, and one interval
pub mod RunSeriesTheorems
-- one row on the work buffer, and all of them
pub mod RunRows
