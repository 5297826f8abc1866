-- The checks decide, and where none fails P is written.
use Rattle.std.proofs.Common.{sym}
use Rattle.block_write_checks.proofs.WriteChecksLaws.{write_passes}
use Rattle.block_permutation_rows.proofs.writing.write_permutation.Goals as goal

pub write_checked_permutation-requires : goal.write_checked_permutation-requires
write_checked_permutation-requires c = write_passes _ _ _ _ _ (sym c.in_ok-check_permutation_write.ensures)
