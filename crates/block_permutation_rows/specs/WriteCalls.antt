-- Document 01, "Block library", writing P: the lent buffers after the call.
use Rattle.std.specs.Prelude.{ℕ, List, length}
use Rattle.fault.specs.Buffers.{filled}
use Rattle.block_elements.specs.Rows.{flat}
use Rattle.block_networks.specs.Permutation.{permutation_outs, permutation_rows}
use Rattle.block_sizes.specs.Sizes.{level_of}
use Rattle.block_write_checks.specs.WriteChecks.{write_fault}

-- the rows' buffer after the call
abbrev pub written_rows : ℕ → List ℕ → ℕ → List ℕ → List ℕ → List ℕ
written_rows N ins next rows outputs =
    filled (write_fault N ins next (length rows) (length outputs)) (flat (permutation_rows (level_of N) ins next)) rows

-- the output wires' buffer after the call
abbrev pub written_outputs : ℕ → List ℕ → ℕ → List ℕ → List ℕ → List ℕ
written_outputs N ins next rows outputs =
    filled (write_fault N ins next (length rows) (length outputs)) (permutation_outs (level_of N) ins next) outputs
