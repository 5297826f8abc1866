use Rattle.std.proofs.Common.{length}
use Rattle.fabric_bits.proofs.block.+program_universal.Given as goal

abbrev pub decreases-program_universal : goal.decreases-program_universal
decreases-program_universal l = length l.list.gates.now
