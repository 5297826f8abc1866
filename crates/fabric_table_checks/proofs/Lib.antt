-- a table is well formed exactly if each of its parts is within its bounds
pub mod TableFaultLaws
-- one row more is counted, and the counts stay small
pub mod CountingLaws
-- a table that is written from rows is read back as those, and well formed
pub mod WrittenTables
