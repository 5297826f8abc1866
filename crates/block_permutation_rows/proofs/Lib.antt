-- Laws of writing P.
-- X rows on wires that are numbers
pub mod SwitchesLaws
-- a level by its input rows and what is behind them, and its output wires
pub mod HalvesLaws
-- one level, in the code's order
pub mod LevelsLaws
-- P from its input wires
pub mod NetworkLaws
-- what is written has its stated length, and is P where the checks pass
pub mod WriteLaws
