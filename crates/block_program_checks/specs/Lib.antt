-- Document 01, the block library, programming: the checks.
-- check 11 of bits, and a lent program after a call
pub mod Bits
-- the checks of P and of S in their order, and what holds where all pass
pub mod Checks
