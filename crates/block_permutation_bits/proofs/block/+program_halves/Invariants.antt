-- a half has fewer places than its block
use Rattle.std.proofs.Common.{length}
use Rattle.block_permutation_bits.proofs.block.+program_halves.Given as goal

abbrev pub decreases-program_halves : goal.decreases-program_halves
decreases-program_halves l = length l.perm.now
