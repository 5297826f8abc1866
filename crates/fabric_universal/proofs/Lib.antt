-- The definitions, in document 01's order. Read alone, after those of `block_networks` and `plan`, they give every fabric and every plan's program.
-- what each gate row of a run sees
pub mod Views
-- what the gates of r ++ s see
pub mod ViewsLaws
-- document 01's S(K/2, K) keeps what the selection block must promise
pub mod SelectorLaws
-- what U is programmed for
pub mod UniversalProgram
-- U's counts: rows, wires, bits; its rows' wires are made before them
pub mod UniversalLaws
-- U's promise: its outputs are the gates' values
pub mod UniversalRun
-- the fabric's counts: rows, wires, bits; its rows' wires are made before them
pub mod FabricLaws
-- a plan's values are as the gates of U say
pub mod PlanValues
-- the fabric's promise, over values of any type: its outputs are the plan's
pub mod FabricRun
