-- the demand holds
pub mod ThirdDemandLaws
-- the call's checks, and that its two results are equal
pub mod BothLaws
-- the demand for series holds
pub mod SeriesDemandLaws
