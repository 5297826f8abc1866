-- Document 01, "Names": K is the smallest power of two not below k.
pub mod Powers
