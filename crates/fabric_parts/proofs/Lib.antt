-- the Y rows
pub mod ElementLaws
-- what a done call copies
pub mod PutLaws
