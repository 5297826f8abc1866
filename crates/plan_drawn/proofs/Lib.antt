-- The laws of reading a drawn plan, in the order in which they build on each other.
-- what reading a file gives, whatever its bytes
pub mod WholeFileLaws
-- the bound of a plan beside that of a drawing
pub mod BesideLaws
-- a plan's gates are taken in the order of their numbers
pub mod PlainOrderLaws
-- what is read as a drawing, and a plan's file read as a drawing
pub mod DrawingFileLaws
-- the theorems of drawn reading
pub mod DrawnTheoremsLaws
-- what drawn reading says, by what the two readings under it said
pub mod AnswersLaws
-- searching from a number on, and the numbers of wires while gates are taken
pub mod TakingLaws
-- the lists over which gates are taken, and the plan of a drawing
pub mod OrderingLaws
