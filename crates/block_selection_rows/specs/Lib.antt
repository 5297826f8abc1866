-- Document 01, the block library, writing S: the definitions of the call.
-- the lent buffers after the call
pub mod WriteCalls
-- what the functions under the call need of wires and room
pub mod Block
