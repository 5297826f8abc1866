-- The third demand, and its claim for series.
-- the demand over the definitions that the four calls' contracts equate
pub mod ThirdDemand
-- one call that makes the four calls of the demand
pub mod BothCalls
-- the demand for series of intervals
pub mod SeriesDemand
