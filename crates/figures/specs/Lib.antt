-- Document 01, "Bench sheet", and document 02, W1, W4, W5, W6 and W7, on figures.
-- a figure, and the claim that a table of them holds
pub mod Figure
-- the starred figures
pub mod StatedFigures
-- document 02, W1, on figures
pub mod DrawnFigures
-- document 02, W4, on figures
pub mod TableFigures
-- document 02, W5, on figures
pub mod SavingFigures
-- document 02, W6, on figures
pub mod SeriesFigures
-- document 02, W7, on figures
pub mod EditFigures
