-- Document 01, "Block library", writing S(m, n): the lent buffers after the call.
use Rattle.std.specs.Prelude.{ℕ, List, length}
use Rattle.fault.specs.Buffers.{filled}
use Rattle.block_elements.specs.Rows.{flat}
use Rattle.block_networks.specs.Selection.{selection_rows, selection_outs}
use Rattle.block_write_checks.specs.WriteChecks.{selection_write_fault}

-- the rows' buffer after the call
abbrev pub selection_written_rows : ℕ → ℕ → List ℕ → ℕ → List ℕ → List ℕ → List ℕ
selection_written_rows m n ins next rows outputs =
    filled (selection_write_fault m n ins next (length rows) (length outputs)) (flat (selection_rows m n ins next)) rows

-- the output wires' buffer after the call
abbrev pub selection_written_outputs : ℕ → ℕ → List ℕ → ℕ → List ℕ → List ℕ → List ℕ
selection_written_outputs m n ins next rows outputs =
    filled (selection_write_fault m n ins next (length rows) (length outputs)) (selection_outs m n ins next) outputs
