-- Wires and rows in lent buffers, as document 01 has them: the definitions of the calls.
-- wires in a list of 16-bit entries
pub mod Wires
-- rows in a table of 16-bit entries
pub mod Rows
