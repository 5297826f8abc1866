-- document 02, W3: the sheet of the fabric of three counts
pub mod Sheet
-- the kinds of a block's rows from its counts
pub mod Kinds
