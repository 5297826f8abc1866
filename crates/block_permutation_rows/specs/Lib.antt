-- Document 01, the block library, writing P: the definitions of the call.
-- the lent buffers after the call
pub mod WriteCalls
-- what the writer of one level needs of wires and room
pub mod Levels
