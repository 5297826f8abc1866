-- Laws of programming P.
-- the loaded mapping is that of the wanted inputs, and after success the program holds its bits
pub mod ProgramLaws
-- the table of P(4)'s words
pub mod FourLaws
-- the walk round a loop ends
pub mod WalkLaws
-- the mappings and the bits of a block's halves
pub mod HalvesLaws
