-- Laws of writing S.
-- the chain's wires and rows
pub mod ChainLaws
-- the block of all N positions: first P, chain, second P
pub mod BlockLaws
-- what is written has its stated length, and is S where the checks pass
pub mod SelectionWriteLaws
