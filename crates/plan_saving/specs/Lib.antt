-- Document 02, W5: saving a plan.
-- the shortest file of a plan, and what saving answers and leaves in the lent buffer
pub mod Saving
-- what each case of saving's answer says
pub mod Answers
-- what is proved of saving
pub mod SavingTheorems
-- the bytes of the gates and of the outputs, and what a function leaves that writes bytes
pub mod Parts
