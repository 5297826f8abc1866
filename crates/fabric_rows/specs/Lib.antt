-- Document 01, "Fabric": its table in a lent buffer.
-- what the call leaves in the lent table
pub mod FabricCalls
-- what the writer of U requires of its parts
pub mod Block
-- what the functions under the call require of theirs
pub mod Writing
