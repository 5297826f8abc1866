-- Document 01, "Run: 13, 14, 12, 11", and document 02, W6: 13, 14, 16, 12, 11.
-- the checks in their order
pub mod RunFault
