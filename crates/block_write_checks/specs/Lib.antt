-- Document 01, the block library, writing: the checks.
-- checks 13 and 11, which P and S share
pub mod Wires
-- the checks of P and of S in their order, and what holds where all pass
pub mod WriteChecks
