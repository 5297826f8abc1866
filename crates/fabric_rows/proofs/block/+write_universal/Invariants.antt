use Rattle.std.proofs.Common.{length}
use Rattle.fabric_rows.proofs.block.+write_universal.Given as goal

abbrev pub decreases-write_universal : goal.decreases-write_universal
decreases-write_universal l = length l.outs.now
