-- After success the lent table begins with the fabric's, whatever stood there.
use mathlib.Core.Path.{◌≡◌}
use mathlib.Core.List.{List}
use Prim.Native.Nat.{ℕ}
use lib.ListN.{length, take, drop}
use lib.Seq.{take_at}
use Rattle.fabric_universal.specs.Fabric.{fabric_table}
use Rattle.fabric_universal.proofs.FabricLaws.{length-fabric_table}
use Rattle.fabric_sizes.specs.Counting.{table_length}
use Rattle.fabric_sizes.specs.FabricChecks.{fabric_fault}
use Rattle.fabric_rows.specs.FabricCalls.{fabric_result}

pub fabric_written_read : (u k v : ℕ) (table : List ℕ) → fabric_fault u k v (length table) ≡ 0
    → take (table_length u k v) (fabric_result u k v table) ≡ fabric_table u k v
fabric_written_read u k v table e =
    let new = fabric_table u k v in
    rw e (take_at new (drop (length new) table) (table_length u k v) (length-fabric_table u k v))
