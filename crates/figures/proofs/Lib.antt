-- a table that passes a computed test holds
pub mod FigureLaws
-- the starred figures hold
pub mod StatedFiguresLaws
-- the figures of drawn reading hold
pub mod DrawnFiguresLaws
-- the figures of table bytes hold
pub mod TableFiguresLaws
-- the figures of saving hold
pub mod SavingFiguresLaws
-- the figures of series hold
pub mod SeriesFiguresLaws
-- the figures of settled plans and of edits hold
pub mod EditFiguresLaws
