-- The fabric's selection blocks in lent buffers.
-- output wires from a place of the table on
pub mod Copied
