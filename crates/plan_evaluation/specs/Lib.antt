-- Document 01, plan evaluation ("Conditions of acceptance", 3), and document 02's series of a plan.
-- what a plan gives on a row of inputs, and the call
pub mod Evaluation
-- what it gives on a series of rows with held outputs, and the call
pub mod PlanSeries
-- what holds of that: composition, and one interval
pub mod PlanSeriesTheorems
-- what a gate needs of the array of the wires' bits
pub mod GateStands
-- what an interval needs of its row
pub mod IntervalRow
