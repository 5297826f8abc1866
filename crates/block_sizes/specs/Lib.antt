-- Document 01, the block library: the sizes of blocks.
-- checks 2 and 4, and the largest block
pub mod Sizes
