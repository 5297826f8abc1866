-- Document 01, "The plan": the files of a plan.
-- a plan's files, one for each choice of standing fields, that reading reads exactly these, and the longest
pub mod Encoding
-- document 02, W4: what is proved of table bytes
pub mod TableLines
-- document 02, W7: what is proved of the figures of a plan that is read
pub mod ReadFigures
