-- What the programs read and write.
-- bytes of text, and text in a lent buffer
pub mod Text
-- the plan that a program takes, and the line of a refusal
pub mod Plans
