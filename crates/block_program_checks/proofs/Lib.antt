-- When the checks of programming pass.
-- check 11 of bits
pub mod BitsLaws
-- the checks of P and of S
pub mod ChecksLaws
