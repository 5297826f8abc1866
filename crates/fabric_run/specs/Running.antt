-- Document 01, "Run": the run of a table with a program on a row of input contacts.
use Rattle.std.specs.Prelude.{ℕ, List, ◌∷◌, get_or}
use Rattle.lists.specs.Lists.{list_of}
use Rattle.blocks.specs.Elements.{State, run, gate_on_bits, unpack}
use Rattle.fabric_sizes.specs.Layout.{output_wire_at, outputs_in, table_rows, bits_in}

-- before the first row: wire 0 is 0, the inputs are the row's entries
abbrev pub run_start : List ℕ → List ℕ → List ℕ → State ℕ
run_start table program row = record { wires = 0 ∷ row; bits = unpack (bits_in table) program; gates = 0 }

-- every wire's bit afterwards: what the work buffer holds
unfoldable pub run_wires : List ℕ → List ℕ → List ℕ → List ℕ
run_wires table program row = (run 0 gate_on_bits (table_rows table) (run_start table program row)).wires

-- the outputs' bits
unfoldable pub run_outputs : List ℕ → List ℕ → List ℕ → List ℕ
run_outputs table program row = list_of (outputs_in table) (λ j. get_or (run_wires table program row) (output_wire_at table j) 0)
