-- The run stands before row i.
use Rattle.std.proofs.Common.{◌++◌}
use Rattle.fabric_run.proofs.RunLaws.{RunStands}
use Rattle.fabric_run.proofs.running.run_rows.Given as goal

abbrev pub invariant-loop-i : goal.invariant-loop-i
invariant-loop-i l = RunStands l.fabric.table.now l.fabric.program.now (l.row ++ l.state) l.initial.work l.i l.before l.work
