-- The door of the block library: what the storeys above are built on.
-- rows, their run, program bits, lent buffers of them: open
pub mod Elements
-- P and S: closed
pub mod Networks
-- the calls' answers and buffers: closed
pub mod Calls
-- what P and S promise
pub mod Promises
