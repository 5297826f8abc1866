-- When the calls succeed, and what holds then.
pub use Rattle.block_program_checks.proofs.BitsLaws.{stored-done}
pub use Rattle.block_program_checks.proofs.ChecksLaws.{selection-program-at_succeeds}
pub use Rattle.block_write_checks.proofs.WriteChecksLaws.{selection_write_succeeds}
