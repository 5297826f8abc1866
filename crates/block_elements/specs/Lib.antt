-- The elements of document 01: rows and program bits, which every block and every fabric is made of.
-- "Elements and their table": rows X, Y and G, their entries, and their run over values of any type
pub mod Rows
-- "Program bits follow the rows": where bit p lies, storing bits, packing
pub mod Bits
