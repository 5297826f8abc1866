-- Writing P and S succeeds exactly if their bounds hold.
use mathlib.Core.Path.{◌≡◌, ap}
use mathlib.Core.List.{List}
use Prim.Native.Nat.{ℕ, ◌+◌, ◌*◌, ◌^◌, ◌≤◌, ◌<◌}
use native.Mathlib.Omega.{arith}
use lib.ListN.{length}
use Rattle.lists.specs.Lists.{Below}
use Rattle.fault.proofs.ChecksLaws.{unless-zero, and_then-zero, list-faultless}
use Rattle.elements.specs.Elements.{max_wires}
use Rattle.powers.proofs.PowersLaws.{ceil_log-power}
use Rattle.block_elements.specs.Rows.{stride}
use Rattle.block_networks.specs.Permutation.{permutation_count}
use Rattle.block_networks.specs.Selection.{selection_count, selection_wires}
use Rattle.block_sizes.specs.Sizes.{max_level, level_of, SelectionSizes}
use Rattle.block_sizes.proofs.SizesLaws.{size_is, power-allowed, selection-sizes-allowed}
use Rattle.block_write_checks.specs.WriteChecks.{write_fault, selection_write_fault, SelectionWritePasses, WritePasses}
use Rattle.block_write_checks.proofs.WiresLaws.{wires-faultless, buffers_faultless}

-- ---- P

pub write_passes : (N : ℕ) (ins : List ℕ) (next rows outputs : ℕ) → write_fault N ins next rows outputs ≡ 0 → WritePasses N ins next rows outputs
unfolding write_fault
write_passes N ins next rows outputs e =
    let h = simp (and_then-zero, unless-zero, list-faultless, wires-faultless, buffers_faultless) at e in
    let wires = h.1.1.0 in
    let room = h.1.1.1 in
    record {
      size = size_is N h.0;
      inputs = h.1.0;
      made = wires.given;
      wires = λ some. wires.new (omega arith);
      row_room = room.row_room;
      output_room = room.output_room;
    }

-- and the other way round
pub write_done : (N : ℕ) (ins : List ℕ) (next rows outputs : ℕ) → WritePasses N ins next rows outputs → write_fault N ins next rows outputs ≡ 0
unfolding write_fault
write_done N ins next rows outputs w =
    simp (and_then-zero, unless-zero, list-faultless, wires-faultless, buffers_faultless) (
      rw w.size.power at (power-allowed (level_of N) w.size.level),
      (
        w.inputs,
        (
          record { given = w.made; new = λ some. w.wires (omega arith) },
          record { row_room = w.row_room; output_room = w.output_room },
        ),
      ),
    )

-- the bounds for P(2 ^ n)
pub write_succeeds : (n : ℕ) (ins : List ℕ) (next rows outputs : ℕ) → n ≤ max_level → length ins ≡ 2 ^ n → Below next ins
    → (1 ≤ permutation_count n → next + 2 * permutation_count n ≤ max_wires) → stride * permutation_count n ≤ rows → 2 ^ n ≤ outputs
    → write_fault (2 ^ n) ins next rows outputs ≡ 0
write_succeeds n ins next rows outputs small inputs made wires row_room output_room =
    let size = size_is (2 ^ n) (power-allowed n small) in
    let e = ap permutation_count (ceil_log-power n) in
    write_done (2 ^ n) ins next rows outputs
    (record {
      size = size;
      inputs = inputs;
      made = made;
      wires = rw e wires;
      row_room = rw e row_room;
      output_room = output_room;
    })

-- ---- S

module _ (m n : ℕ) (ins : List ℕ) (next rows outputs : ℕ) where
  pub selection_write_passes : selection_write_fault m n ins next rows outputs ≡ 0 → SelectionWritePasses m n ins next rows outputs
  unfolding selection_write_fault
  selection_write_passes e =
      let h = simp (and_then-zero, selection-sizes-allowed, list-faultless, wires-faultless, buffers_faultless) at e in
      let wires = h.1.1.0 in
      let room = h.1.1.1 in
      record {
        sizes = h.0;
        inputs = h.1.0;
        made = wires.given;
        wires = wires.new;
        row_room = room.row_room;
        output_room = room.output_room;
      }

  -- and the other way round
  pub selection_write_succeeds : SelectionSizes m n → length ins ≡ m → Below next ins → (1 ≤ selection_wires m n → next + selection_wires m n ≤ max_wires)
      → stride * selection_count m n ≤ rows → n ≤ outputs → selection_write_fault m n ins next rows outputs ≡ 0
  unfolding selection_write_fault
  selection_write_succeeds sizes inputs made wires row_room output_room =
      simp (and_then-zero, selection-sizes-allowed, list-faultless, wires-faultless, buffers_faultless)
      (sizes, (inputs, (record { given = made; new = wires }, record { row_room = row_room; output_room = output_room })))

-- wire 0 is made
pub some-wire : {m n : ℕ} {ins : List ℕ} {next rows outputs : ℕ} → SelectionWritePasses m n ins next rows outputs → 0 < next
some-wire {next = next} w = omega (arith, w.made.each 0 (omega arith))
