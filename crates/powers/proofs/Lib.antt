-- that it is a power of two, not below k, and the smallest such
pub mod PowersLaws
