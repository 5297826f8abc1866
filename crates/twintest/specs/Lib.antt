-- line one of the program
pub mod CountsLine
