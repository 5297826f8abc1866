-- The first i rows have no fault, and the wires and bits before row i are counted.
use Rattle.std.proofs.Common.{◌≡◌}
use Rattle.fault.specs.Checks.{first_of}
use Rattle.fabric_table_checks.specs.TableFault.{row_fault}
use Rattle.fabric_table_checks.specs.Counting.{CountedBefore}
use Rattle.fabric_table_checks.proofs.checking.check_rows.Given as goal

abbrev pub invariant-loop-i : goal.invariant-loop-i
invariant-loop-i l = (first_of (row_fault l.table) l.i ≡ 0) × CountedBefore l.table l.i l.before
