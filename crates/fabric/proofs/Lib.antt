-- when the calls succeed, and what they left: the laws that the door hands on
pub mod FabricsLaws
-- the fabric's table is well formed, a plan's program exact, and their run gives what the plan gives
pub mod FabricTableLaws
-- the sheet's figures stand in the table that is written
pub mod SheetPromiseLaws
-- a series of runs that equal the plan equals the plan's series
pub mod SeriesPromiseLaws
