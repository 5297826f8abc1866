-- U's bits by its halves
pub mod UniversalBitsLaws
-- the plan's gates, loaded over spare ones
pub mod LoadedLaws
-- the plan's bits from the list of its gates, by their parts
pub mod PlanBitsLaws
-- after success the lent program begins with the plan's
pub mod PlanProgramLaws
