-- Document 01, "Blocks": the networks P and S. With block_elements they give every table and program of P and S.
-- P(N): its rows and output wires, its program bits, and which input reaches which output
pub mod Permutation
-- the mapping of a list of wanted inputs
pub mod Wanted
-- P's programming: the rule for the loops of pairs, by itself
pub mod SideRule
-- a partial injection completed in rising order
pub mod Completion
-- S(m, n): its rows and output wires, its program bits, and which input reaches which output
pub mod Selection
-- S's programming: the rule by itself
pub mod SelectionRule
