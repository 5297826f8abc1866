-- Document 01, block library, programming S(m, n): "Programming takes the wanted inputs and gives program bits, packed as below."
use Rattle.std.specs.Prelude.{ℕ, List, length}
use Rattle.fault.specs.Buffers.{filled}
use Rattle.block_elements.specs.Bits.{pack}
use Rattle.block_networks.specs.Selection.{selection_bits}
use Rattle.block_program_checks.specs.Bits.{stored_at}
use Rattle.block_program_checks.specs.Checks.{selection_program_fault, selection_program_at_fault}

-- the lent program after the call: the packed bits, followed by what stood past them
abbrev pub selection_program_result : ℕ → ℕ → List ℕ → List ℕ → List ℕ
selection_program_result m n wanted program =
    filled (selection_program_fault m n wanted (length program)) (pack (selection_bits m n wanted)) program

-- the lent program after a call that stores the bits from bit `start` on
abbrev pub selection_program_at_result : ℕ → ℕ → List ℕ → ℕ → List ℕ → List ℕ
selection_program_at_result m n wanted start program =
    stored_at (selection_program_at_fault m n wanted start (length program)) start (selection_bits m n wanted) program
