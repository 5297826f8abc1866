-- what one more row of a table adds
pub mod LayoutLaws
-- the parts of a fabric are small, and a power of two above 1 has a half of the level below
pub mod PartsLaws
-- the fabric's counts are those of its parts
pub mod CountingLaws
-- when the checks of writing the fabric and of programming a plan pass, and their answers
pub mod FabricChecksLaws
