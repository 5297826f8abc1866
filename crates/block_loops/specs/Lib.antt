-- How P is programmed on lists: the definitions that its code follows.
-- a mapping as a list with its inverse, and what one level makes of it
pub mod Mappings
-- how the sides of the pairs are marked, loop after loop
pub mod Marking
-- what the parts of a level ask of their buffers
pub mod Levels
