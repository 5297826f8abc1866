-- Document 02, W7: the edits of a plan.
-- the three edits: their checks, the plan that each makes, and what it says
pub mod Edits
-- what each case of an edit's answer says
pub mod Answers
-- what is proved of the edits
pub mod EditTheorems
-- what the code leaves in the array of uses
pub mod Uncounting
