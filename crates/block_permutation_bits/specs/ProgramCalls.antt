-- Document 01, block library, programming P: "Programming takes the wanted inputs and gives program bits, packed as below."
use Rattle.std.specs.Prelude.{ℕ, List, length}
use Rattle.fault.specs.Buffers.{filled}
use Rattle.block_elements.specs.Bits.{pack}
use Rattle.block_networks.specs.Wanted.{wanted_bits}
use Rattle.block_sizes.specs.Sizes.{level_of}
use Rattle.block_loops.specs.Mappings.{list_bits}
use Rattle.block_program_checks.specs.Bits.{stored_at}
use Rattle.block_program_checks.specs.Checks.{program_fault, program_at_fault}

-- the lent program after the call: the packed bits, followed by what stood past them
abbrev pub program_result : ℕ → List ℕ → List ℕ → List ℕ
program_result N wanted program = filled (program_fault N wanted (length program)) (pack (wanted_bits (level_of N) wanted)) program

-- the lent program after a call that stores the bits from bit `start` on
abbrev pub program_at_result : ℕ → List ℕ → ℕ → List ℕ → List ℕ
program_at_result N wanted start program = stored_at (program_at_fault N wanted start (length program)) start (wanted_bits (level_of N) wanted) program

-- the program bits of a block for the mapping of its outputs to its inputs
abbrev pub mapping_bits : List ℕ → List ℕ
mapping_bits p = list_bits (level_of (length p)) p
