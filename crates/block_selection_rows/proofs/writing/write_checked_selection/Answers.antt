-- A block has no more positions than the larger lists have places.
use Rattle.std.proofs.Common.{arith}
use Rattle.block_networks.specs.Selection.{selection_level}
use Rattle.block_sizes.proofs.SizesLaws.{power_small, selection-level-small}
use Rattle.block_selection_rows.proofs.writing.write_checked_selection.Goals as goal

pub write_in-requires-else-selection_positions-le-SMALL_PLACES-clause-places : goal.write_in-requires-else-selection_positions-le-SMALL_PLACES-clause-places
write_in-requires-else-selection_positions-le-SMALL_PLACES-clause-places c =
    (power_small (selection_level c.args.m c.args.n) (selection-level-small c.requires.sizes), omega arith)
