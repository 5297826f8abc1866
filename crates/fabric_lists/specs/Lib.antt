-- A plan's gates as lists, and what is read off them.
-- the lists that a plan's gates are loaded into
pub mod GateLists
-- what the pins want of a selection block
pub mod WantedLists
