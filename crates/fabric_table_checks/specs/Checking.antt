-- What the check of a table answers, and what its parts need and answer.
use Rattle.std.specs.Prelude.{ℕ, zero, suc, ◌<◌, ◌≡◌, List, Result, Ok, Err, leb}
use Rattle.fault.specs.declared.Fault.{Fault}
use Rattle.fault.specs.Number.{fault_number}
use Rattle.fault.specs.Checks.{unless, and_then, first_of}
use Rattle.elements.specs.Elements.{max_wires}
use Rattle.fabric_sizes.specs.Layout.{outputs_in, rows_in, wires_before, wires_in, bits_in}
use Rattle.fabric_table_checks.specs.TableFault.{output_wire_fault, table_fault, HeaderWithin}
use Rattle.fabric_table_checks.specs.declared.table.TableCounts.{TableCounts}

-- what is said of a table: the number of the refusal, 0 for none; its wires and program bits, both 0 on a refusal
pub record TableOutcome : Type 0 where
  pub number : ℕ
  pub wires : ℕ
  pub bits : ℕ

-- what each case of the answer says
abbrev pub check_outcome : Result TableCounts Fault → TableOutcome
check_outcome (Ok c) = record { number = 0; wires = c.wires; bits = c.bits }
check_outcome (Err f) = record { number = fault_number f; wires = 0; bits = 0 }

-- where a check gave this number
abbrev pub counted_or : ℕ → List ℕ → TableOutcome
counted_or zero table = record { number = 0; wires = wires_in table; bits = bits_in table }
counted_or (suc n) table = record { number = suc n; wires = 0; bits = 0 }

-- the check of a table: 13
abbrev pub table_outcome : List ℕ → TableOutcome
table_outcome table = counted_or (table_fault table) table

-- ---- its parts

-- row i of a table whose header is within bounds, where w wires are made before it
pub record RowToCheck (table : List ℕ) (i w : ℕ) : Type 0 where
  pub start : HeaderWithin table
  pub within : i < rows_in table
  pub made : w ≡ wires_before table i

-- 13 behind the rows: an output wire that is not made; more than 65,536 wires
abbrev pub end_fault : List ℕ → ℕ
end_fault table = and_then (first_of (output_wire_fault table) (outputs_in table)) (unless (leb (wires_in table) max_wires) Fault.Fabric)
