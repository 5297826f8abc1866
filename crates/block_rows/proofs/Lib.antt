-- Laws of wires and rows in lent buffers.
-- a part of a list whose place is clamped to the list's length
pub mod ClampLaws
-- wires of the fabric are stored as they are
pub mod WiresLaws
-- rows that have room are stored as `flat` has them
pub mod RowsLaws
