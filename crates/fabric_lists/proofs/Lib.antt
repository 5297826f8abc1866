-- the plan's gates, loaded to the front of lists
pub mod GateListsLaws
-- what is wanted, listed from the front
pub mod WantedListsLaws
