-- one law over rows: their kinds from their counts
pub mod KindsLaws
