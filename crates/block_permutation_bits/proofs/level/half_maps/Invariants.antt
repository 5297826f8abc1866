-- the first i entries of both halves are stored
use Rattle.std.proofs.Common.{◌≡◌}
use Rattle.lists.specs.Lists.{list_of}
use Rattle.fault.specs.Buffers.{over}
use Rattle.block_loops.specs.Mappings.{half_entry}
use Rattle.block_permutation_bits.proofs.level.half_maps.Given as goal

abbrev pub invariant-loop-i : goal.invariant-loop-i
invariant-loop-i l =
    (l.upper ≡ over (list_of l.i (half_entry 0 l.inputs l.sides)) l.initial.upper) × (l.lower ≡ over (list_of l.i (half_entry 1 l.inputs l.sides)) l.initial.lower)
