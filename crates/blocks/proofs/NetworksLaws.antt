-- What holds of P and S besides their promises: counts, levels, wanted lists.
pub use Rattle.block_networks.proofs.SelectionLaws.{length-selection_outs, length-selection_rows, level-least, level-power, selection-count, selection-made, selection-totals}
pub use Rattle.block_networks.proofs.SelectionRouting.{length-selection_bits, selected-at, selected_lt, selection_bits-bits}
pub use Rattle.block_sizes.proofs.SizesLaws.{count_most}
