-- What the calls answer and leave, closed.
pub use Rattle.block_permutation_bits.specs.ProgramCalls.{program_result}
pub use Rattle.block_permutation_rows.specs.WriteCalls.{written_outputs, written_rows}
pub use Rattle.block_program_checks.specs.Checks.{SelectionPasses, program_fault, selection_program_fault}
pub use Rattle.block_selection_bits.specs.ProgramCalls.{selection_program_at_result, selection_program_result}
pub use Rattle.block_selection_rows.specs.WriteCalls.{selection_written_outputs, selection_written_rows}
pub use Rattle.block_write_checks.specs.WriteChecks.{SelectionWritePasses, selection_write_fault, write_fault}
pub use Rattle.block_counts.specs.BlockCounting.{permutation_counting, selection_counting}
