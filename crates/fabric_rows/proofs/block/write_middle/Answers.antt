-- The Y rows behind the selection block, and their output wires behind its.
use Rattle.fabric_rows.proofs.BlockLaws.{middle-written, middle-fed}
use Rattle.fabric_rows.proofs.block.write_middle.Goals as goal

pub returns : goal.returns
returns c =
    let a = c.args in
    let block = c.write_selection_on in
    let made = block.ensures in
    let mix = c.write_mix.ensures in
    record {
      rows = middle-written a.parts a.outs.now a.rows.now a.pins.now c.requires (made.rows, made.to) block.auto.rows mix.rows;
      pins = middle-fed a.parts a.outs.now a.rows.now a.pins.now c.requires (made.rows, made.to) mix.pins;
    }
