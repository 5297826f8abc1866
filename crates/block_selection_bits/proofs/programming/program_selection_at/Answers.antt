-- Where no check fails, the part from the first bit's byte on has room for the bits.
use mathlib.Core.Path.{sym, ◌∙◌}
use native.Mathlib.Omega.{arith}
use Rattle.block_bits.proofs.StoreLaws.{store_from_byte}
use Rattle.block_networks.specs.Selection.{selection_bits}
use Rattle.block_program_checks.proofs.BitsLaws.{stored-done}
use Rattle.block_program_checks.proofs.ChecksLaws.{selection-program-passes}
use Rattle.block_selection_bits.proofs.SelectionProgramLaws.{passes_in_part}
use Rattle.block_selection_bits.proofs.programming.program_selection_at.Goals as goal

pub store_program-requires : goal.store_program-requires
store_program-requires c =
    (passes_in_part c.args.program.now (selection-program-passes (sym c.in_ok-check_selection.ensures)) c.bit_byte-byte.ensures c.bit_place.ensures, omega arith)

pub returns-clause-written : goal.returns-clause-written
returns-clause-written c =
    let a = c.args in
    let z = c.in_ok-check_selection.ensures in
    let h = (selection-program-passes (sym z)).fits in
    store_from_byte a.program.now a.start (selection_bits a.m a.n a.wanted.now) c.bit_byte-byte.ensures c.bit_place.ensures (omega arith) c.store_program.ensures
    ∙ stored-done _ _ _ _ z
