-- Where no check fails, the sizes and the wanted inputs are allowed, and the bits are stored in zeroed bytes.
use mathlib.Core.Path.{sym, ap, ◌∙◌}
use native.Mathlib.Omega.{arith}
use lib.ListN.{length}
use Rattle.fault.proofs.BuffersLaws.{is-filled}
use Rattle.block_elements.specs.Bits.{bytes_for}
use Rattle.block_bits.proofs.StoreLaws.{store_cleared}
use Rattle.block_networks.specs.Selection.{selection_bits}
use Rattle.block_networks.proofs.SelectionRouting.{length-selection_bits}
use Rattle.block_program_checks.proofs.ChecksLaws.{selection-program-passes, selection-fault-at}
use Rattle.block_selection_bits.proofs.programming.program_selection.Goals as goal

pub store_program-requires : goal.store_program-requires
store_program-requires c =
    let h = selection-program-passes (sym c.in_ok-check_selection.ensures) in
    (record { sizes = h.sizes; selected = h.selected; fits = rw c.fill_bytes.auto.bytes h.fits }, omega arith)

pub returns-clause-written : goal.returns-clause-written
returns-clause-written c =
    let a = c.args in
    let size = c.bytes_for.ensures ∙ ap bytes_for (c.selection_count.ensures ∙ sym (length-selection_bits a.m a.n a.wanted.now)) in
    let fits = (selection-program-passes (sym c.in_ok-check_selection.ensures)).fits in
    is-filled _ _ _ _
    (store_cleared (selection_bits a.m a.n a.wanted.now) a.program.now size (omega (arith, c.selection_count.ensures, c.bytes_for.ensures, fits))
    c.fill_bytes.ensures c.store_program.ensures)
    (c.in_ok-check_selection.ensures ∙ selection-fault-at a.m a.n a.wanted.now (length a.program.now))
