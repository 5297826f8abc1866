-- The door of the fabrics: what the crates above build on.
-- the fabric, its program and its run, and what the calls answer and leave: closed
pub mod Fabrics
-- what the fabric promises of a plan
pub mod Promise
-- what a run promises of its series
pub mod SeriesPromise
-- what its sheet promises of its table
pub mod SheetPromise
