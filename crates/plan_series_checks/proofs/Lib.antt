-- what holds where the checks of a series pass
pub mod SeriesChecksLaws
