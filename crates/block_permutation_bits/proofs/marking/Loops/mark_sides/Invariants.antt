-- the loops that the last pair and the first i pairs lead are marked, and no others
use Rattle.std.proofs.Common.{◌+◌}
use Rattle.block_loops.proofs.MarkingLaws.{Swept}
use Rattle.block_permutation_bits.proofs.marking.Loops.mark_sides.Given as goal

abbrev pub invariant-loop-i : goal.invariant-loop-i
invariant-loop-i l = Swept l.self.inputs.now l.self.outputs.now (l.i + 1) l.mark
