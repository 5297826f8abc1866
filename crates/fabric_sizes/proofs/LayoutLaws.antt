-- What one more row of a table adds: its wires and its bits.
use mathlib.Core.Path.{◌≡◌}
use mathlib.Core.List.{List, [], ◌∷◌}
use Prim.Native.Nat.{ℕ, suc, ◌+◌}
use native.Mathlib.Omega.{arith}
use Rattle.lists.specs.Lists.{list_of}
use Rattle.blocks.specs.Elements.{makes, takes, total}
use Rattle.blocks.proofs.ElementsLaws.{total-append}
use Rattle.fabric_sizes.specs.Layout.{row_at, rows_to, wires_before, bits_before}

pub wires-more : (table : List ℕ) (i : ℕ) → wires_before table (suc i) ≡ wires_before table i + makes (row_at table i)
unfolding wires_before list_of total
wires-more table i = omega (arith, total-append makes (rows_to table i) (row_at table i ∷ []))

pub bits-more : (table : List ℕ) (i : ℕ) → bits_before table (suc i) ≡ bits_before table i + takes (row_at table i)
unfolding bits_before list_of total
bits-more table i = omega (arith, total-append takes (rows_to table i) (row_at table i ∷ []))
