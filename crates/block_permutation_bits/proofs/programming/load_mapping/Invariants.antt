-- the first i entries are loaded
use Rattle.std.proofs.Common.{◌≡◌}
use Rattle.lists.specs.Lists.{list_of}
use Rattle.fault.specs.Buffers.{over}
use Rattle.block_networks.specs.Wanted.{mapping}
use Rattle.block_permutation_bits.proofs.programming.load_mapping.Given as goal

abbrev pub invariant-loop-i : goal.invariant-loop-i
invariant-loop-i l = l.perm ≡ over (list_of l.i (mapping l.wanted)) l.initial.perm
