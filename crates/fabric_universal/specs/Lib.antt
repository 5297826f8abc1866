-- the selection block inside U, as a parameter, and what it must promise
pub mod Selector
-- "Blocks", U(K): its rows and output wires, and its program bits
pub mod Universal
-- "Blocks", the fabric of three counts: its rows and table, and a plan's program bits
pub mod Fabric
