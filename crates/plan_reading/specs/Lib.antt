-- Document 01, "The plan": the plan file, and reading it.
-- the file of a plan, or of a drawing, and the order of its checks
pub mod PlanFile
-- what the answers of reading say
pub mod Answers
-- the plan file in the parts that the code reads
pub mod Parts
