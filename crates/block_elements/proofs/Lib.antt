-- The laws of rows and of program bits.
-- running r ++ s; earlier wires keep their values; decoding undoes `flat`
pub mod RowsLaws
-- Y rows: their counts, and what a run of them does
pub mod YRun
-- a stored bit reads back and changes no other; packing and unpacking
pub mod BitsLaws
