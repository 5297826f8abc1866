-- One row on the work buffer, and all of them.
use Rattle.std.specs.Prelude.{ℕ, ◌+◌, ◌<◌, ◌≤◌, ◌≡◌, List, length, get_or}
use Rattle.std.proofs.lemmas.List.Edits.{sets}
use Rattle.lists.specs.Lists.{list_of}
use Rattle.blocks.specs.Elements.{Row, gate_bits, State, outputs, gate_on_bits, bit_at, AreBits}
use Rattle.fabric_sizes.specs.Layout.{left_place, right_place, inputs_in, outputs_in, output_wire_at, wires_in}
use Rattle.fabric_table_checks.specs.declared.table.TableCounts.{TableCounts}
use Rattle.fabric_table_checks.specs.TableFault.{WellFormed}
use Rattle.fabric_table_checks.specs.Counting.{max_bits}

-- what a row sees: the wires' bits, and the program from its first bit on
abbrev pub row_state : List ℕ → ℕ → List ℕ → State ℕ
row_state program bit wires = record { wires = wires; bits = list_of gate_bits (λ i. bit_at program (bit + i)); gates = 0 }

-- the work buffer after a row, before which so many wires are made and so many program bits are taken
abbrev pub row_done : Row → List ℕ → TableCounts → List ℕ → List ℕ
row_done row program before work = sets work before.wires (outputs 0 gate_on_bits row (row_state program before.bits work))

-- the kind, the left and the right wire of a row's entries
abbrev pub kind_entry : List ℕ → ℕ
kind_entry row = get_or row 0 0

abbrev pub left_of : List ℕ → ℕ
left_of row = get_or row left_place 0

abbrev pub right_of : List ℕ → ℕ
right_of row = get_or row right_place 0

-- a row's entries: its two wires are made, both with a bit, and the `new` wires that it makes have room in the work buffer
pub record RowRoom (new : ℕ) (row : List ℕ) (before : TableCounts) (work : List ℕ) : Type 0 where
  pub entries : right_place < length row
  pub left : left_of row < before.wires
  pub right : right_of row < before.wires
  pub left_bit : get_or work (left_of row) 0 ≤ 1
  pub right_bit : get_or work (right_of row) 0 ≤ 1
  pub room : before.wires + new ≤ length work
  pub bits : before.bits ≤ max_bits

-- a well-formed table, a row of its inputs, a work buffer for its wires
pub record Runnable (table row : List ℕ) (work : ℕ) : Type 0 where
  pub well_formed : WellFormed table
  pub contacts : length row ≡ inputs_in table
  pub contact_bits : AreBits row
  pub room : wires_in table ≤ work

-- the bits that a work buffer holds on the output wires
abbrev pub outputs_on : List ℕ → List ℕ → List ℕ
outputs_on table work = list_of (outputs_in table) (λ j. get_or work (output_wire_at table j) 0)

-- every output wire is on the work buffer, and there is a place for each
pub record ResultRoom (table : List ℕ) (work places : ℕ) : Type 0 where
  pub well_formed : WellFormed table
  pub wires : wires_in table ≤ work
  pub places_are : places ≡ outputs_in table

-- one interval: its row can be run, and there is a place for each output
pub record RunInterval (table row : List ℕ) (work places : ℕ) : Type 0 where
  pub runnable : Runnable table row work
  pub places_are : places ≡ outputs_in table
