-- Laws of programming S.
-- arrays by what their places hold
pub mod ArraysLaws
-- how many outputs want each input
pub mod CountsLaws
-- the positions of the inputs: wanted ones at their heads, idle ones in rising order
pub mod PositionsLaws
-- the positions of the outputs
pub mod CopiesLaws
-- the program by its parts: first network, chain, second network
pub mod PartsLaws
-- the checks in a part of the program, and the program after success
pub mod SelectionProgramLaws
