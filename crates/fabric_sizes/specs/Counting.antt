-- Document 01, "Counting: 2, 3, 4": what counting answers; and the length of the fabric's table.
use Rattle.std.specs.Prelude.{ℕ, ◌+◌}
use Rattle.elements.specs.declared.Counts.{Counts}
use Rattle.elements.specs.Elements.{CountOutcome, counts_unless, CountsAre}
use Rattle.plan.specs.Faults.{counts_fault}
use Rattle.fabric_universal.specs.Fabric.{fabric_count, fabric_wires, fabric_takes}
use Rattle.fabric_sizes.specs.Layout.{row_start}

-- counting: 2, 3, 4
abbrev pub counting : ℕ → ℕ → ℕ → CountOutcome
counting u k v = counts_unless (counts_fault u k v) (fabric_count u k v) (fabric_wires u k v) (fabric_takes u k v)

-- the counts without the checks
abbrev pub FabricCounts : ℕ → ℕ → ℕ → Counts → Type 0
FabricCounts u k v c = CountsAre (fabric_count u k v) (fabric_wires u k v) (fabric_takes u k v) c

-- the table's length
abbrev pub table_length : ℕ → ℕ → ℕ → ℕ
table_length u k v = row_start (fabric_count u k v) + v
