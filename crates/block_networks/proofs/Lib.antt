-- The laws of P and S, in the order in which they build on each other: P, the mapping of a list, S.
-- the pigeonhole principle, and that orbits close
pub mod Orbits
-- the side is the same along a walk, and partners have different sides
pub mod Loops
-- the mappings that are left to P's two halves
pub mod Halves
-- the side of a programmed P follows the rule for the loops, and nothing else does
pub mod SideRuleLaws
-- which input reaches which output, for any bits
pub mod Sources
-- which input reaches which output: one to one for any bits, and as programmed
pub mod Routing
-- X rows: their counts, and what a run of them does
pub mod XRun
-- P's counts: rows, wires, bits
pub mod PermutationLaws
-- P's promises: what its run delivers
pub mod PermutationRun
-- a list of distinct wanted inputs is a one-to-one mapping, and P delivers it
pub mod WantedLaws
-- a mapping is fixed by what it does below N, P programmed for it as for its list, and the rule fixes every bit
pub mod Mappings
-- a completed partial injection is one to one, and the rule fixes it
pub mod CompletionLaws
-- S's heads, and the mappings of its two networks
pub mod Heads
-- S's counts: rows, wires, bits
pub mod SelectionLaws
-- which input reaches which output of S: one of the N for any bits, and as programmed
pub mod SelectionRouting
-- S's promises: what its run delivers
pub mod SelectionRun
-- the bits of a programmed S follow the rule, and nothing else does
pub mod SelectionRuleLaws
