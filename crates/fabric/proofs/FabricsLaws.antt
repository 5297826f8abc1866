-- When the calls succeed, and that what they left is read back.
pub use Rattle.fabric_bits.proofs.PlanProgramLaws.{plan_programmed_read}
pub use Rattle.fabric_rows.proofs.FabricWriteLaws.{fabric_written_read}
pub use Rattle.fabric_sizes.proofs.FabricChecksLaws.{fabric_succeeds, plan-program_succeeds}
