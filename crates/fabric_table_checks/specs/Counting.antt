-- Wires and program bits, as the code counts them through the rows.
use Rattle.std.specs.Prelude.{ℕ, ◌*◌, ◌≤◌, ◌≡◌, List}
use Rattle.elements.specs.Elements.{max_wires}
use Rattle.blocks.specs.Elements.{gate_bits, makes, takes, row_of}
use Rattle.fabric_sizes.specs.Layout.{wires_before, bits_before}
use Rattle.fabric_table_checks.specs.declared.table.TableCounts.{TableCounts}

-- the program bits of the longest table, which has fewer than 65,536 rows
abbrev pub max_bits : ℕ
max_bits = gate_bits * max_wires

-- what a row of a kind makes and takes is the same whatever its wires
abbrev pub kind_wires : ℕ → ℕ
kind_wires kind = makes (row_of kind 0 0)

abbrev pub kind_bits : ℕ → ℕ
kind_bits kind = takes (row_of kind 0 0)

-- both, as the code counts them
pub record CountsOf (kind : ℕ) (c : TableCounts) : Type 0 where
  pub wires : c.wires ≡ kind_wires kind
  pub bits : c.bits ≡ kind_bits kind
  pub few_wires : c.wires ≤ 2
  pub few_bits : c.bits ≤ gate_bits

-- before row i of a table there are so many
pub record CountedBefore (table : List ℕ) (i : ℕ) (c : TableCounts) : Type 0 where
  pub wires : c.wires ≡ wires_before table i
  pub bits : c.bits ≡ bits_before table i
