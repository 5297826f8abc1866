-- Where no check fails, S is written.
use mathlib.Core.Path.{sym}
use Rattle.fault.proofs.BuffersLaws.{is-filled}
use Rattle.block_elements.specs.Rows.{flat}
use Rattle.block_networks.specs.Selection.{selection_rows, selection_outs}
use Rattle.block_write_checks.proofs.WriteChecksLaws.{selection_write_passes}
use Rattle.block_selection_rows.proofs.writing.write_selection.Goals as goal

pub write_checked_selection-requires : goal.write_checked_selection-requires
write_checked_selection-requires c = selection_write_passes _ _ _ _ _ _ (sym c.in_ok-check_selection_write.ensures)

pub returns-clause-rows : goal.returns-clause-rows
returns-clause-rows c =
    let a = c.args in
    is-filled _ (flat (selection_rows a.m a.n a.inputs.now a.next.0)) a.rows.now _ c.write_checked_selection.ensures.rows_after c.in_ok-check_selection_write.ensures

pub returns-clause-outputs : goal.returns-clause-outputs
returns-clause-outputs c =
    let a = c.args in
    is-filled _ (selection_outs a.m a.n a.inputs.now a.next.0) a.outputs.now _ c.write_checked_selection.ensures.outputs_after c.in_ok-check_selection_write.ensures
