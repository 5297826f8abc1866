-- Document 02, W1: reading a drawn plan.
-- the file of a drawn plan, number 15, and what reading it says
pub mod DrawnFile
-- what the code holds while it takes gates
pub mod Taking
-- what the answer of drawn reading says
pub mod Answers
-- what is proved of drawn reading
pub mod DrawnTheorems
