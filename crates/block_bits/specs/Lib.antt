-- Program bits in lent bytes: the definitions of the calls that store several bits.
-- the bits that are stored
pub mod Stores
