-- Document 01, "Block library", writing P and S: the checks in their order, where the lent buffers have `rows` entries for the rows and
-- `outputs` for the output wires.
use Rattle.std.specs.Prelude.{ℕ, ◌*◌, ◌+◌, ◌≤◌, List, ◌≡◌, length}
use Rattle.lists.specs.Lists.{Below}
use Rattle.fault.specs.declared.Fault.{Fault}
use Rattle.fault.specs.Checks.{unless, and_then, list_fault}
use Rattle.elements.specs.Elements.{max_wires}
use Rattle.block_elements.specs.Rows.{stride}
use Rattle.block_networks.specs.Permutation.{permutation_count}
use Rattle.block_networks.specs.Selection.{selection_count, selection_wires}
use Rattle.block_sizes.specs.Sizes.{size_allowed, level_of, selection_sizes_fault, SizeIs, SelectionSizes}
use Rattle.block_write_checks.specs.Wires.{wires_fault, buffers_fault}

-- the checks of writing P(N): 2, 12, 13, 11. Each row makes two wires
unfoldable pub write_fault : ℕ → List ℕ → ℕ → ℕ → ℕ → ℕ
write_fault N ins next rows outputs =
    and_then (unless (size_allowed N) Fault.Inputs)
    (and_then (list_fault N ins) (and_then (wires_fault ins (2 * permutation_count (level_of N)) next) (buffers_fault (permutation_count (level_of N)) N rows outputs)))

-- of writing S(m, n) those after the sizes': 12, 13, 11
abbrev pub wires_and_room_fault : ℕ → ℕ → List ℕ → ℕ → ℕ → ℕ → ℕ
wires_and_room_fault m n ins next rows outputs =
    and_then (list_fault m ins) (and_then (wires_fault ins (selection_wires m n) next) (buffers_fault (selection_count m n) n rows outputs))

-- the checks of writing S(m, n): 2, 4, 12, 13, 11
unfoldable pub selection_write_fault : ℕ → ℕ → List ℕ → ℕ → ℕ → ℕ → ℕ
selection_write_fault m n ins next rows outputs = and_then (selection_sizes_fault m n) (wires_and_room_fault m n ins next rows outputs)

-- what holds where no check fails
pub record WritePasses (N : ℕ) (ins : List ℕ) (next rows outputs : ℕ) : Type 0 where
  pub size : SizeIs N
  pub inputs : length ins ≡ N
  pub made : Below next ins
  pub wires : 1 ≤ permutation_count (level_of N) → next + 2 * permutation_count (level_of N) ≤ max_wires
  pub row_room : stride * permutation_count (level_of N) ≤ rows
  pub output_room : N ≤ outputs

-- what holds where no check fails
pub record SelectionWritePasses (m n : ℕ) (ins : List ℕ) (next rows outputs : ℕ) : Type 0 where
  pub sizes : SelectionSizes m n
  pub inputs : length ins ≡ m
  pub made : Below next ins
  pub wires : 1 ≤ selection_wires m n → next + selection_wires m n ≤ max_wires
  pub row_room : stride * selection_count m n ≤ rows
  pub output_room : n ≤ outputs
