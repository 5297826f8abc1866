-- The first output wires are made.
use Rattle.std.proofs.Common.{◌≡◌}
use Rattle.fault.specs.Checks.{first_of}
use Rattle.fabric_table_checks.specs.TableFault.{output_wire_fault}
use Rattle.fabric_table_checks.proofs.checking.check_outputs.Given as goal

abbrev pub invariant-loop-output : goal.invariant-loop-output
invariant-loop-output l = first_of (output_wire_fault l.table) l.output-index ≡ 0
