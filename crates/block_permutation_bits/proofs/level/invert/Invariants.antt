-- the inputs of the first i output pairs name their takers, and these pairs are unmarked
use Rattle.std.proofs.Common.{◌*◌}
use Rattle.block_loops.specs.Marking.{Unmarked}
use Rattle.block_loops.proofs.MappingsLaws.{Inverted}
use Rattle.block_permutation_bits.proofs.level.invert.Given as goal

abbrev pub invariant-loop-i : goal.invariant-loop-i
invariant-loop-i l = Inverted l.mapping.inputs.now l.inverse (2 * l.i) × Unmarked l.i l.mark
