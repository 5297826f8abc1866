-- The block on the input wires and zeros, and its first n outputs.
use Rattle.std.proofs.Common.{refl, sym, arith}
use lib.Seq.{length-take-le}
use Rattle.block_networks.proofs.SelectionLaws.{selection-outputs-fit}
use Rattle.block_selection_rows.proofs.SelectionWriteLaws.{length-front, block_room, selection-rows-put, selection-outputs-put}
use Rattle.block_selection_rows.proofs.writing.write_in.Goals as goal

pub write_block-requires : goal.write_block-requires
write_block-requires g c =
    let size = c.selection_positions-size in
    let a = c.args in
    block_room a.m a.n a.inputs.now a.next.0 _ _ g.row.N size.result _ c.requires.selection_write_passes size.ensures (omega arith) c.copy_wires.ensures
    (length-front g.row.N size.result (omega arith))

pub slice_bounds-copy_wires-end : goal.slice_bounds-copy_wires-end
slice_bounds-copy_wires-end g c =
    let a = c.args in
    let size = c.selection_positions-size in
    let places = length-front g.row.N size.result (omega arith) in
    sym (length-take-le a.n c.write_block.new.to (omega (arith, c.write_block.auto.to, places, size.ensures, selection-outputs-fit a.m a.n)))

pub returns-clause-rows_after : goal.returns-clause-rows_after
returns-clause-rows_after g c =
    let size = c.selection_positions-size in
    let a = c.args in
    selection-rows-put a.m a.n a.inputs.now a.next.0 _ _ g.row.N size.result _ c.requires.selection_write_passes size.ensures (omega arith) c.copy_wires.ensures
    _ _ c.write_block.ensures.rows_after

pub returns-clause-outputs_after : goal.returns-clause-outputs_after
returns-clause-outputs_after g c =
    let size = c.selection_positions-size in
    let a = c.args in
    selection-outputs-put a.m a.n a.inputs.now a.next.0 _ _ g.row.N size.result _ c.requires.selection_write_passes size.ensures (omega arith) c.copy_wires.ensures
    _ _ _ refl c.write_block.ensures.to_after c.copy_wires-2.ensures
