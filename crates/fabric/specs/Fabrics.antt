-- The fabric, its program and its run, and what the calls answer and leave: closed.
pub use Rattle.fabric_bits.specs.ProgramCalls.{plan_program_result}
pub use Rattle.fabric_rows.specs.FabricCalls.{fabric_result}
pub use Rattle.fabric_run.specs.RunCalls.{run_result, run_work}
pub use Rattle.fabric_run.specs.RunSeries.{run_series_end, run_series_results, run_series_work}
pub use Rattle.fabric_run.specs.Running.{run_outputs, run_wires}
pub use Rattle.fabric_run_checks.specs.RunFault.{run_fault, run_series_fault}
pub use Rattle.fabric_sheet.specs.Sheet.{kind_counting}
pub use Rattle.fabric_sizes.specs.Counting.{counting, table_length}
pub use Rattle.fabric_sizes.specs.FabricChecks.{fabric_fault, plan_program_fault, program_length}
pub use Rattle.fabric_universal.specs.Fabric.{fabric_wires, plan_program, plan_table}
