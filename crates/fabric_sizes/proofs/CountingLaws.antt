-- The fabric's counts are those of its parts, and what counting answers.
use mathlib.Core.Path.{subst}
use Prim.Native.Nat.{ℕ, ◌+◌, ◌*◌}
use native.Mathlib.Omega.{arith}
use Rattle.elements.specs.declared.Counts.{Counts}
use Rattle.fabric_universal.specs.Fabric.{gate_level, fabric_count, fabric_wires, fabric_takes}
use Rattle.fabric_sizes.specs.Counting.{FabricCounts}
use Rattle.fabric_sizes.specs.Parts.{PlacesAre, SelectionIs, UniversalIs}
use Rattle.fabric_sizes.proofs.PartsLaws.{places-level}

-- the fabric's counts from those of its parts
pub fabric_counts : (u places v : ℕ) {pins universal outputs : Counts} → PlacesAre places places → SelectionIs u (2 * places) pins
    → UniversalIs (gate_level places) universal → SelectionIs places v outputs
    → FabricCounts u places v (record {
      rows = pins.rows + universal.rows + outputs.rows;
      wires = 1 + u + pins.wires + universal.wires + outputs.wires;
      bits = pins.bits + universal.bits + outputs.bits;
    })
unfolding fabric_count fabric_wires fabric_takes
fabric_counts u places v {pins} {universal} {outputs} K p g o =
    let first = subst (λ m. SelectionIs u (2 * m) pins) K.is_places p in
    let last = subst (λ m. SelectionIs m v outputs) K.is_places o in
    record { is_rows = omega arith; is_wires = omega arith; is_bits = omega arith }

-- the fabric of K gates has the parts of that of k
pub same-counts : (u v : ℕ) {k places : ℕ} {c : Counts} → PlacesAre k places → FabricCounts u places v c → FabricCounts u k v c
unfolding fabric_count fabric_wires fabric_takes
same-counts u v p f = rw (places-level p) at f
