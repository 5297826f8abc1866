-- When the checks of writing pass.
-- checks 13 and 11
pub mod WiresLaws
-- the checks of P and of S
pub mod WriteChecksLaws
