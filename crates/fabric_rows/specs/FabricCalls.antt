-- Document 01, "Counting and fabric": the lent table after the call that writes the fabric.
use Rattle.std.specs.Prelude.{ℕ, List, length}
use Rattle.fault.specs.Buffers.{filled}
use Rattle.fabric_universal.specs.Fabric.{fabric_table}
use Rattle.fabric_sizes.specs.FabricChecks.{fabric_fault}

-- the lent table after the call
abbrev pub fabric_result : ℕ → ℕ → ℕ → List ℕ → List ℕ
fabric_result u k v table = filled (fabric_fault u k v (length table)) (fabric_table u k v) table
