-- the parts of the file that the code reads, and that they are the whole file
pub mod PartsLaws
