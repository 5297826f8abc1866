-- Document 02, W6.
-- a series of intervals over any step from a row to outputs
pub mod Series
-- two series, one after the other, and the series of both
pub mod Composition
