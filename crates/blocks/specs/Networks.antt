-- P and S, closed: above the door nothing opens them.
pub use Rattle.block_networks.specs.Selection.{Selected, selection_bits, selection_count, selection_level, selection_outs, selection_rows, selection_wires}
pub use Rattle.block_networks.specs.Wanted.{mapping}
