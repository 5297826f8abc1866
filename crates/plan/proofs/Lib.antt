-- The laws of a plan in memory, in the order in which they build on each other.
-- places that begin with given values, and gates' own wires
pub mod RecordLaws
-- the rules as orders between numbers
pub mod RulesLaws
-- uses: one gate or output more, equal gates and outputs, a wire above all that is named; counting them in an array
pub mod UsesLaws
-- a plan is accepted exactly if each of its parts is allowed and its figures are the counted ones
pub mod FaultsLaws
-- unused places never matter
pub mod AgreeLaws
-- 17 exactly, and that the uses add up
pub mod TallyLaws
