-- The sizes of fabrics, and what stands where in a table.
-- "Elements and their table": what stands where in a table
pub mod Layout
-- the counts of the fabric's parts
pub mod Parts
-- "Counting: 2, 3, 4": what counting answers; and the table's length
pub mod Counting
-- "Counting and fabric: 2, 3, 4, and for the fabric 11" and "Program bits: plan faults, 11": the checks, and what holds where they pass
pub mod FabricChecks
