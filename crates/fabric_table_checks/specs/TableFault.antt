-- Document 01, "Elements and their table": when a table is malformed (13).
use Rattle.std.specs.Prelude.{ℕ, ◌+◌, ◌≤◌, ◌<◌, Bool, ◌&&◌, List, leb, ltb, eqb, length, ◌≡◌}
use Rattle.fault.specs.declared.Fault.{Fault}
use Rattle.fault.specs.Checks.{unless, and_then, first_of}
use Rattle.elements.specs.Elements.{max_wires, kind_number}
use Rattle.elements.specs.declared.Kind.{Kind}
use Rattle.plan.specs.Record.{max_inputs, max_outputs}
use Rattle.plan.specs.Rules.{count_allowed}
use Rattle.fabric_sizes.specs.Layout.{output_wire_at, left_at, wires_in, header, row_start, rows_in, wires_before, right_at, outputs_in, kind_at, inputs_in}

-- a kind: 1 to 3
unfoldable pub kind_allowed : ℕ → Bool
kind_allowed kind = leb (kind_number Kind.X) kind && leb kind (kind_number Kind.G)

-- a length below 3; u or v out of range; another length
unfoldable pub header_fault : List ℕ → ℕ
header_fault table =
    and_then (unless (leb header (length table)) Fault.Fabric)
    (and_then (unless (count_allowed max_inputs (inputs_in table)) Fault.Fabric)
    (and_then (unless (count_allowed max_outputs (outputs_in table)) Fault.Fabric)
    (unless (eqb (length table) (row_start (rows_in table) + outputs_in table)) Fault.Fabric)))

-- of row i: a kind not 1 to 3; a wire not made before that row
unfoldable pub row_fault : List ℕ → ℕ → ℕ
row_fault table i =
    and_then (unless (kind_allowed (kind_at table i)) Fault.Fabric)
    (and_then (unless (ltb (left_at table i) (wires_before table i)) Fault.Fabric)
    (unless (ltb (right_at table i) (wires_before table i)) Fault.Fabric))

-- of output j: a wire not made
unfoldable pub output_wire_fault : List ℕ → ℕ → ℕ
output_wire_fault table j = unless (ltb (output_wire_at table j) (wires_in table)) Fault.Fabric

-- and more than 65,536 wires
unfoldable pub table_fault : List ℕ → ℕ
table_fault table =
    and_then (header_fault table)
    (and_then (first_of (row_fault table) (rows_in table))
    (and_then (first_of (output_wire_fault table) (outputs_in table)) (unless (leb (wires_in table) max_wires) Fault.Fabric)))

-- the header is within its bounds
pub record HeaderWithin (table : List ℕ) : Type 0 where
  pub long : header ≤ length table
  pub some_inputs : 1 ≤ inputs_in table
  pub inputs : inputs_in table ≤ max_inputs
  pub some_outputs : 1 ≤ outputs_in table
  pub outputs : outputs_in table ≤ max_outputs
  pub size : length table ≡ row_start (rows_in table) + outputs_in table

-- row i is within its bounds
pub record RowWithin (table : List ℕ) (i : ℕ) : Type 0 where
  pub some_kind : kind_number Kind.X ≤ kind_at table i
  pub kind : kind_at table i ≤ kind_number Kind.G
  pub left : left_at table i < wires_before table i
  pub right : right_at table i < wires_before table i

-- every part of the table is within its bounds
pub record WellFormed (table : List ℕ) : Type 0 where
  pub start : HeaderWithin table
  pub row : (i : ℕ) → i < rows_in table → RowWithin table i
  pub output : (j : ℕ) → j < outputs_in table → output_wire_at table j < wires_in table
  pub wires : wires_in table ≤ max_wires
