-- The laws of plan evaluation, in the order in which they build on each other.
-- how many wires there are, and that bits stay bits
pub mod EvaluationLaws
-- the gates on the wires' array
pub mod GatesLaws
-- the series of an accepted plan
pub mod PlanSeriesLaws
-- its intervals on lent buffers
pub mod IntervalsLaws
-- its theorems
pub mod PlanTheoremsLaws
-- unused places never matter
pub mod AgreeLaws
