-- A block has no more positions than the larger arrays have places.
use Rattle.std.proofs.Common.{arith}
use Rattle.block_networks.specs.Selection.{selection_level}
use Rattle.block_sizes.proofs.SizesLaws.{power_small, selection-level-small}
use Rattle.block_selection_bits.proofs.program.store_program.Goals as goal

pub store_in-requires-else-selection_positions-le-SMALL_PLACES-clause-places : goal.store_in-requires-else-selection_positions-le-SMALL_PLACES-clause-places
store_in-requires-else-selection_positions-le-SMALL_PLACES-clause-places c =
    (power_small (selection_level c.args.m c.args.n) (selection-level-small c.requires.0.sizes), omega arith)
